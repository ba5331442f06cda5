-- The tables of the powers of 3 and of their places: one test for each table, computed at every entry, and the powers pass the check.
use Rattle.std.specs.Prelude.{◌≡◌, ℕ, zero, suc, ◌+◌, ◌%◌, ◌<◌, Bool, true, ◌&&◌, List, [], ◌∷◌, length, ◌==◌, bit_xor, nat_eq, slice_index, refl}
use Rattle.std.proofs.Common.{sym, ap, ap₂, ◌∙◌, mod-eq_of_lt, arith}
use Rattle.std.proofs.lemmas.Nat.{xor_lt}
use Rattle.std.proofs.lemmas.Bool.{and_from, and_parts, cond-false, eq-eqb, eqb-true, ne_eqb}
use Rattle.rings.specs.AllBelow.{all_below}
use Rattle.rings.specs.Powers.{power, place, next_power}
use Rattle.rings.specs.Bytes.{polynomial_product, reduced, byte_product}
use Rattle.rings.specs.PowersCheck.{respects_xor_at, respects_xor_with, are_nonzero_codes, are_distinct, respects_xor, passes}
use Rattle.rings.specs.PowersOfThree.{three_to, powers_of_three}
use Rattle.rings.specs.AllBelowLemmas.{all_below_at, all_below_from}
use Rattle.rings.specs.ByteProduct.{byte_product_right}
use Rattle.rings.specs.CycleLaws.{Cycle}
use Rattle.rings.specs.PassedLaws.{passed_cycle}

unfoldable pub places : List ℕ
places = 255 ∷ 0 ∷ 25 ∷ 1 ∷ 50 ∷ 2 ∷ 26 ∷ 198 ∷ 75 ∷ 199 ∷ 27 ∷ 104 ∷ 51 ∷ 238 ∷ 223 ∷ 3 ∷ 100 ∷ 4 ∷ 224 ∷ 14 ∷ 52 ∷ 141 ∷ 129 ∷ 239 ∷ 76 ∷ 113 ∷ 8 ∷ 200 ∷ 248 ∷ 105 ∷ 28 ∷ 193 ∷ 125 ∷ 194 ∷ 29 ∷ 181 ∷ 249 ∷ 185 ∷ 39 ∷ 106 ∷ 77 ∷ 228 ∷ 166 ∷ 114 ∷ 154 ∷ 201 ∷ 9 ∷ 120 ∷ 101 ∷ 47 ∷ 138 ∷ 5 ∷ 33 ∷ 15 ∷ 225 ∷ 36 ∷ 18 ∷ 240 ∷ 130 ∷ 69 ∷ 53 ∷ 147 ∷ 218 ∷ 142 ∷ 150 ∷ 143 ∷ 219 ∷ 189 ∷ 54 ∷ 208 ∷ 206 ∷ 148 ∷ 19 ∷ 92 ∷ 210 ∷ 241 ∷ 64 ∷ 70 ∷ 131 ∷ 56 ∷ 102 ∷ 221 ∷ 253 ∷ 48 ∷ 191 ∷ 6 ∷ 139 ∷ 98 ∷ 179 ∷ 37 ∷ 226 ∷ 152 ∷ 34 ∷ 136 ∷ 145 ∷ 16 ∷ 126 ∷ 110 ∷ 72 ∷ 195 ∷ 163 ∷ 182 ∷ 30 ∷ 66 ∷ 58 ∷ 107 ∷ 40 ∷ 84 ∷ 250 ∷ 133 ∷ 61 ∷ 186 ∷ 43 ∷ 121 ∷ 10 ∷ 21 ∷ 155 ∷ 159 ∷ 94 ∷ 202 ∷ 78 ∷ 212 ∷ 172 ∷ 229 ∷ 243 ∷ 115 ∷ 167 ∷ 87 ∷ 175 ∷ 88 ∷ 168 ∷ 80 ∷ 244 ∷ 234 ∷ 214 ∷ 116 ∷ 79 ∷ 174 ∷ 233 ∷ 213 ∷ 231 ∷ 230 ∷ 173 ∷ 232 ∷ 44 ∷ 215 ∷ 117 ∷ 122 ∷ 235 ∷ 22 ∷ 11 ∷ 245 ∷ 89 ∷ 203 ∷ 95 ∷ 176 ∷ 156 ∷ 169 ∷ 81 ∷ 160 ∷ 127 ∷ 12 ∷ 246 ∷ 111 ∷ 23 ∷ 196 ∷ 73 ∷ 236 ∷ 216 ∷ 67 ∷ 31 ∷ 45 ∷ 164 ∷ 118 ∷ 123 ∷ 183 ∷ 204 ∷ 187 ∷ 62 ∷ 90 ∷ 251 ∷ 96 ∷ 177 ∷ 134 ∷ 59 ∷ 82 ∷ 161 ∷ 108 ∷ 170 ∷ 85 ∷ 41 ∷ 157 ∷ 151 ∷ 178 ∷ 135 ∷ 144 ∷ 97 ∷ 190 ∷ 220 ∷ 252 ∷ 188 ∷ 149 ∷ 207 ∷ 205 ∷ 55 ∷ 63 ∷ 91 ∷ 209 ∷ 83 ∷ 57 ∷ 132 ∷ 60 ∷ 65 ∷ 162 ∷ 109 ∷ 71 ∷ 20 ∷ 42 ∷ 158 ∷ 93 ∷ 86 ∷ 242 ∷ 211 ∷ 171 ∷ 68 ∷ 17 ∷ 146 ∷ 217 ∷ 35 ∷ 32 ∷ 46 ∷ 137 ∷ 180 ∷ 124 ∷ 184 ∷ 38 ∷ 119 ∷ 153 ∷ 227 ∷ 165 ∷ 103 ∷ 74 ∷ 237 ∷ 222 ∷ 197 ∷ 49 ∷ 254 ∷ 24 ∷ 13 ∷ 99 ∷ 140 ∷ 128 ∷ 192 ∷ 247 ∷ 112 ∷ 7 ∷ []

-- At each code: the entry is its place, and to step is to multiply by 3.
place_test : ℕ → Bool
place_test a = slice_index places a == place powers_of_three a && next_power powers_of_three a == byte_product 3 a

places_pass : all_below place_test 256 ≡ true
unfolding all_below place_test places powers_of_three byte_product polynomial_product reduced
places_pass = refl

place_passes : (a : ℕ) → a < 256 → ((slice_index places a == place powers_of_three a) ≡ true) × ((next_power powers_of_three a == byte_product 3 a) ≡ true)
unfolding place_test
place_passes a h =
    and_parts (slice_index places a == place powers_of_three a) (next_power powers_of_three a == byte_product 3 a) (all_below_at place_test 256 places_pass a h)

pub entry_is_place : (a : ℕ) → a < 256 → slice_index places a ≡ place powers_of_three a
entry_is_place a h = eqb-true (slice_index places a) (place powers_of_three a) (place_passes a h).0

step_is_triple : (a : ℕ) → a < 256 → next_power powers_of_three a ≡ byte_product 3 a
step_is_triple a h = eqb-true (next_power powers_of_three a) (byte_product 3 a) (place_passes a h).1

pub powers_are_all : length powers_of_three ≡ 255
unfolding powers_of_three
powers_are_all = refl

powers_are_codes : are_nonzero_codes powers_of_three ≡ true
unfolding all_below powers_of_three
powers_are_codes = refl

powers_are_distinct : are_distinct powers_of_three ≡ true
unfolding all_below powers_of_three
powers_are_distinct = refl

first_is_one : nat_eq (power powers_of_three 0) 1 ≡ true
unfolding powers_of_three
first_is_one = refl

triple_of_sum : (a b : ℕ) → a < 256 → b < 256 → next_power powers_of_three (bit_xor a b) ≡ bit_xor (next_power powers_of_three a) (next_power powers_of_three b)
triple_of_sum a b h k =
    step_is_triple (bit_xor a b) (xor_lt 8 a b h k) ∙ byte_product_right 3 a b ∙ sym (ap₂ bit_xor (step_is_triple a h) (step_is_triple b k))

powers_respect_xor : respects_xor powers_of_three ≡ true
powers_respect_xor =
    all_below_from (respects_xor_with powers_of_three) 256 (λ a h. all_below_from (respects_xor_at powers_of_three a) 256 (λ b k.
    eq-eqb (next_power powers_of_three (bit_xor a b)) (bit_xor (next_power powers_of_three a) (next_power powers_of_three b)) (triple_of_sum a b h k)))

pub powers_of_three_pass : passes powers_of_three ≡ true
powers_of_three_pass =
    and_from (are_nonzero_codes powers_of_three) (are_distinct powers_of_three && (power powers_of_three 0 == 1 && respects_xor powers_of_three)) powers_are_codes
    (and_from (are_distinct powers_of_three) (power powers_of_three 0 == 1 && respects_xor powers_of_three) powers_are_distinct
    (and_from (power powers_of_three 0 == 1) (respects_xor powers_of_three) first_is_one powers_respect_xor))

pub three_cycle : Cycle powers_of_three
three_cycle = passed_cycle powers_of_three powers_are_all powers_of_three_pass

-- Each entry is 3 times the one before it, and so the power of 3 of its place.
triple_is_behind : (i : ℕ) → suc i < 255 → power powers_of_three (suc i) ≡ byte_product 3 (power powers_of_three i)
triple_is_behind i h =
    let k : i < 255 = omega arith in
    let p = three_cycle.power_positive i k in
    ap (power powers_of_three) (let e : suc i ≡ i + 1 = omega arith in e ∙ sym (mod-eq_of_lt (let g : i + 1 < 255 = omega arith in g)))
    ∙ sym (cond-false (power powers_of_three i == 0) 0 (power powers_of_three ((place powers_of_three (power powers_of_three i) + 1) % 255)) (ne_eqb (power powers_of_three i) 0 (λ e. omega arith))
    ∙ ap (λ x. power powers_of_three ((x + 1) % 255)) (three_cycle.place_of_power i k))
    ∙ step_is_triple (power powers_of_three i) (three_cycle.power_small i k)

pub entry_is_power_of_three : (i : ℕ) → i < 255 → power powers_of_three i ≡ three_to i
unfolding three_to
entry_is_power_of_three zero h = eqb-true (power powers_of_three 0) 1 first_is_one
entry_is_power_of_three (suc i) h = triple_is_behind i h ∙ ap (byte_product 3) (entry_is_power_of_three i (omega arith))

pub power_of_place : (a : ℕ) → a < 256 → 0 < a → three_to (place powers_of_three a) ≡ a
power_of_place a h p =
    sym (entry_is_power_of_three (place powers_of_three a) (three_cycle.place_small a p h)) ∙ three_cycle.power_at_place a p h
