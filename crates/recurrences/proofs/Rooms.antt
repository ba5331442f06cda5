-- Rows and coefficients lie within the lists that hold them.
use Rattle.std.proofs.Common.{◌≡◌, ℕ, ◌+◌, ◌*◌, ◌/◌, ◌<◌, ◌≤◌, mul-le-mul_right, mul_assoc, mul_comm, add-mul, mul-le-mul_left, one-mul, mul-one, div-mul-le_self, arith}

pub row_room : (p r N L : ℕ) → (p + 1) * (N * N) ≤ L → r < N → (p * N + r) * N + N ≤ L
row_room p r N L h lt =
    let a : (p * N + r + 1) * N ≡ (p * N + r) * N + 1 * N = add-mul (p * N + r) 1 N in
    let b : p * N + r + 1 ≤ (p + 1) * N = omega (arith, add-mul p 1 N, one-mul N) in
    let c : (p * N + r + 1) * N ≤ (p + 1) * N * N = mul-le-mul_right N b in
    omega (arith, a, c, one-mul N, mul_assoc (p + 1) N N)

-- a number is at most its multiple by a size
pub under_multiple : (x r N : ℕ) → r < N → x ≤ x * N
under_multiple x r N lt = let e : 1 ≤ N = omega arith in omega (arith, mul-le-mul_left x e, mul-one x)

pub fewer_fit : (a b x L : ℕ) → a ≤ b → b * x ≤ L → a * x ≤ L
fewer_fit a b x L h k = omega (arith, mul-le-mul_right x h)

-- a coefficient up to the degree d lies within its column
pub coefficient_room : (k d N L : ℕ) → k ≤ d → L ≡ N * (d + 1) → k * N + N ≤ L
coefficient_room k d N L h e = omega (arith, fewer_fit (k + 1) (d + 1) N L (omega arith) (omega (arith, mul_comm N (d + 1))), add-mul k 1 N, one-mul N)

-- each matrix of a list lies within it
pub matrix_room : (l x L : ℕ) → l < L / x → (l + 1) * x ≤ L
matrix_room l x L h = fewer_fit (l + 1) (L / x) x L (omega arith) (div-mul-le_self L x)
