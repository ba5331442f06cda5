-- Scripts of calls, and what each call answers. Everything is told by the matrices accepted so far.
use Rattle.std.specs.Prelude.{◌≡◌, ℕ, zero, suc, ◌<◌, ◌≤◌, min, cond, List, [], ◌++◌, length, Some, None, Option, ◌==◌, slice_index_or}
use Rattle.rings.specs.Arithmetic.{Arithmetic}
use Rattle.recurrences.specs.declared.refusal.Refusal.{Refusal}
use Rattle.recurrences.specs.declared.refusal.Refusal.TheVariants.{Length}
use Rattle.runs.specs.declared.script.Call.{Call}
use Rattle.runs.specs.declared.script.Call.TheVariants.{Offer, Standing, Column, Continuation}
use Rattle.runs.specs.declared.script.Answer.{Answer}
use Rattle.runs.specs.declared.script.Answer.TheVariants.{Done, Stands, Refused}
use Rattle.runs.specs.Promise.{Promise}
use Rattle.runs.specs.Refusals.{start_refusal, offer_refusal, column_refusal, continuation_refusal}
use Rattle.runs.specs.Standings.{columns_after, phase_after, standing_after}

-- A script lends a place of the length told, or of 1,025 numbers where that is more; no call wants more than 1,024.
abbrev pub lent : ℕ → ℕ
lent length = min length 1025

-- done, or refused
abbrev pub unless_refused : Option Refusal → Answer
unless_refused None = Done
unless_refused (Some e) = Refused e

-- the answer to a call of a run that has accepted the matrices of the list `taken`
abbrev pub answer_to : Arithmetic → ℕ → ℕ → List ℕ → Call → Answer
answer_to a N bound taken (Offer m) = unless_refused (offer_refusal a.size N (phase_after a N bound taken) m.now)
answer_to a N bound taken Standing = Stands (standing_after a N bound taken)
answer_to a N bound taken (Column j length) = unless_refused (column_refusal N (phase_after a N bound taken) j (columns_after a N taken).gen_degree (lent length))
answer_to a N bound taken (Continuation K length) = unless_refused (continuation_refusal N (phase_after a N bound taken) K (lent length))

-- the codes of an offer that was done, and of another none
abbrev pub if_done : Answer → List ℕ → List ℕ
if_done Done m = m
if_done (Stands s) m = []
if_done (Refused e) m = []

-- the codes that a call adds to the list of those accepted
abbrev pub accepted_by : Call → Answer → List ℕ
accepted_by (Offer m) answer = if_done answer m.now
accepted_by Standing answer = []
accepted_by (Column j length) answer = []
accepted_by (Continuation K length) answer = []

-- what stands past the end of a script and of its answers
abbrev pub no_call : Call
no_call = Offer (record { ref_ptr = (0, 0); now = [] })

-- the codes of the offers accepted among the first i calls
unfoldable pub accepted : List Call → List Answer → ℕ → List ℕ
accepted script answers zero = []
accepted script answers (suc i) = accepted script answers i ++ accepted_by (slice_index_or script i no_call) (slice_index_or answers i Done)

-- a replay is refused as its start is, and where there is not one answer for each call
abbrev pub replay_refusal : ℕ → ℕ → ℕ → ℕ → Option Refusal
replay_refusal N bound calls answers = elim (start_refusal N bound) [ Some e ↦ Some e | None ↦ cond (answers == calls) None (Some Length) ]

-- A run of size N and some bound that was started and then called by the script, and answered so: each answer is the one due, and the promise
-- is kept right after the start and after each call.
pub record Replayed (a : Arithmetic) (N bound : ℕ) (script : List Call) (answers : List Answer) : Type 0 where
  pub answered : (i : ℕ) → i < length script → slice_index_or answers i Done ≡ answer_to a N bound (accepted script answers i) (slice_index_or script i no_call)
  pub promised : (i : ℕ) → i ≤ length script → Promise a N bound (accepted script answers i)
