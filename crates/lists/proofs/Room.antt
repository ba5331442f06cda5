-- The codes of an accepted file go into the least place.
use Rattle.std.proofs.Common.{◌≡◌, ℕ, ◌-◌, ◌≤◌, List, length, take, Ok, ap, arith, length-take}
use Rattle.lists.specs.Bytes.{line_end}
use Rattle.lists.specs.Contents.{codes_of}
use Rattle.lists.specs.FileChecks.{lines_of, opened, checked_lines}
use Rattle.lists.specs.Limits.{least_place}
use Rattle.lists.specs.declared.header.Listing.{Listing}
use Rattle.lists.proofs.Accepted.{lines_ok}
use Rattle.lists.proofs.Opened.{opened_short}
use Rattle.lists.proofs.Splitting.{join_split}

pub accepted_room : (b : List ℕ) (u : Unit {0}) (r : Listing) → opened b ≡ Ok u → checked_lines (lines_of b) ≡ Ok r → length (codes_of b) ≤ least_place
accepted_room b u r o e =
    let x = take (length b - 1) b in
    omega (arith, (lines_ok (lines_of b) r e).room, ap length (join_split line_end x), length-take (length b - 1) b, opened_short b u o)
