use Rattle.std.proofs.Common.{◌≡◌, ℕ, ◌+◌, ◌/◌, List, [], ◌∷◌, length, take, sym, ap, ◌∙◌, div-le_self, arith}
use Rattle.lists.specs.Bytes.{comma, start_letter, end_letter}
use Rattle.lists.specs.Contents.{reading}
use Rattle.lists.specs.LineText.{line_text, matrix_texts}
use Rattle.lists.specs.Places.{written}
use Rattle.lists.specs.Text.{cells, text}
use Rattle.lists.proofs.Listable.{list_ok}
use Rattle.lists.proofs.ReadBack.{reads_back}
use Rattle.lists.proofs.Streamed.{start_part, matrices_part, end_part, text_streamed, text_parts_length, codes_short}
use Rattle.lists.proofs.Writing.{put_three, take_written}
use Rattle.lists.proofs.writer.List.put.Goals as goal

-- the codes of a matrix are as many as its cells
matrices : (k n : ℕ) (cs : List ℕ) → k ≡ n → matrix_texts k (length cs / k) cs ≡ matrix_texts n (length cs / n) cs
matrices k n cs e = ap (λ (j : ℕ). matrix_texts j (length cs / j) cs) e

pub put_matrices-end_at-requires-clause-room : goal.put_matrices-end_at-requires-clause-room
put_matrices-end_at-requires-clause-room c =
    let h = c.args.self.now.header in let cs = c.args.self.now.codes.now in
    let a = ap (λ (ns : List ℕ). length (line_text (start_letter ∷ comma ∷ c.byte.result ∷ []) ns)) c.numbers.ensures in
    let m = ap length (matrices c.cells.result (cells h) cs c.cells.ensures.product) in
    omega (arith, (list_ok h cs c.args.size (sym c.requires.accepted)).1, text_parts_length h cs, c.requires.room, a, m, c.put_line-matrices_at.ensures.next, c.put_line-matrices_at.auto.place)

pub overflow_cast-count : goal.overflow_cast-count
overflow_cast-count c =
    let h = c.args.self.now.header in let cs = c.args.self.now.codes.now in
    let v = list_ok h cs c.args.size (sym c.requires.accepted) in
    omega (arith, c.count.ensures, div-le_self (length cs) (cells h), codes_short h cs v.0.multiple, v.0.short)

pub put_line-requires : goal.put_line-requires
put_line-requires c =
    let h = c.args.self.now.header in let cs = c.args.self.now.codes.now in
    let a = ap (λ (ns : List ℕ). length (line_text (start_letter ∷ comma ∷ c.byte.result ∷ []) ns)) c.numbers.ensures in
    let m = ap length (matrices c.cells.result (cells h) cs c.cells.ensures.product) in
    let z = ap (λ (n : ℕ). length (line_text (end_letter ∷ []) (n ∷ []))) c.count.ensures in
    omega (arith, (list_ok h cs c.args.size (sym c.requires.accepted)).1, text_parts_length h cs, c.requires.room, a, m, z, c.put_line-matrices_at.ensures.next, c.put_line-matrices_at.auto.place, c.put_matrices-end_at.ensures.next, c.put_matrices-end_at.auto.place)

pub returns : goal.returns
returns c =
    let h = c.args.self.now.header in let cs = c.args.self.now.codes.now in let p = c.args.place.now in
    let v = list_ok h cs c.args.size (sym c.requires.accepted) in
    let a = c.put_line-matrices_at in let b = c.put_matrices-end_at in
    let same = matrices c.cells.result (cells h) cs c.cells.ensures.product in
    let start : line_text (start_letter ∷ comma ∷ c.byte.result ∷ []) c.numbers.result ≡ start_part h cs = cc in
    let next : a.result ≡ 0 + length (start_part h cs) = a.ensures.next ∙ ap (λ (s : List ℕ). 0 + length s) start in
    let first = a.ensures.place ∙ ap (λ (s : List ℕ). written 0 s p) start in
    let second = b.ensures.place ∙ ap (λ (s : List ℕ). written a.result s a.new.place) same in
    let third = c.put_line.ensures.place ∙ ap (λ (n : ℕ). written b.result (line_text (end_letter ∷ []) (n ∷ [])) b.new.place) c.count.ensures in
    let place : c.put_line.new.place ≡ written 0 (text h cs) p =
    put_three p _ _ _ 0 a.result b.result (start_part h cs) (matrices_part h cs) (end_part h cs) next (b.ensures.next ∙ ap (λ (s : List ℕ). a.result + length s) same) (omega (arith, v.1, text_parts_length h cs, c.requires.room, next, b.ensures.next, ap length same)) first second third
    ∙ ap (λ (t : List ℕ). written 0 t p) (sym (text_streamed h cs)) in
    record {
      place = place;
      law = ap (λ (t : List ℕ). reading (take c.args.size t)) place ∙ ap reading (take_written c.args.size (text h cs) p v.1) ∙ reads_back h cs v.0;
    }
