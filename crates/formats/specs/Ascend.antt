-- A number made from its bits, the highest first: each bit more doubles what stands.
use Rattle.std.specs.Prelude.{◌≡◌, Bool, true, false, cond, List, [], ◌∷◌, ℕ, ◌+◌, ◌*◌, ◌^◌, ◌≤◌, length}
use Rattle.std.proofs.Common.{◌∙◌, pow-suc, arith}
use Rattle.formats.specs.Binary.{binary}

-- n, and behind its bits these
unfoldable pub ascend : ℕ → List Bool → ℕ
ascend n [] = n
ascend n (b ∷ bs) = ascend (n * 2 + cond b 1 0) bs

ascend-by : (n : ℕ) (bs : List Bool) → ascend n bs ≡ n * 2 ^ length bs + binary bs
unfolding ascend binary
ascend-by n [] = omega arith
ascend-by n (true ∷ bs) = ascend-by (n * 2 + 1) bs ∙ rw (pow-suc 2 (length bs)) (omega arith)
ascend-by n (false ∷ bs) = ascend-by (n * 2 + 0) bs ∙ rw (pow-suc 2 (length bs)) (omega arith)

pub ascend-binary : (bs : List Bool) → ascend 0 bs ≡ binary bs
ascend-binary bs = ascend-by 0 bs ∙ omega arith

-- it only grows
pub ascend-least : (n : ℕ) (bs : List Bool) → n ≤ ascend n bs
unfolding ascend
ascend-least n [] = omega arith
ascend-least n (b ∷ bs) = omega (arith, ascend-least (n * 2 + cond b 1 0) bs)
