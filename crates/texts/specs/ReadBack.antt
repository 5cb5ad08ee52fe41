-- The digits of a number say it: what `decimal` writes is read back as the number, for every number of 64 bits.
use Rattle.std.specs.Prelude.{◌≡◌, refl, Bool, true, false, cond, List, [], ◌∷◌, ◌++◌, ℕ, zero, suc, ◌+◌, ◌-◌, ◌*◌, ◌/◌, ◌%◌, ◌^◌, ◌<◌, ltb}
use Rattle.std.proofs.Common.{◌∙◌, pow-suc, arith, ltb-true}
use Rattle.texts.specs.Digits.{count_from, digit_count, last_digits, decimal}

-- the number that some digits say, behind those that said `before`
unfoldable pub said_from : (before : ℕ) → List ℕ → ℕ
said_from before [] = before
said_from before (digit ∷ digits) = said_from (before * 10 + (digit - 48)) digits

said-last : (before : ℕ) (b : List ℕ) (digit : ℕ) → said_from before (b ++ digit ∷ []) ≡ said_from before b * 10 + (digit - 48)
unfolding said_from
said-last before [] digit = refl
said-last before (x ∷ b) digit = said-last (before * 10 + (x - 48)) b digit

digits-said : (count number : ℕ) → number < 10 ^ count → said_from 0 (last_digits count number) ≡ number
unfolding said_from last_digits
digits-said zero number h = omega arith
digits-said (suc count) number h =
    let g : number < 10 ^ count * 10 = rw pow-suc at h in
    said-last 0 (last_digits count (number / 10)) (48 + number % 10) ∙ rw (digits-said count (number / 10) (omega arith)) (omega arith)

-- as many digits as a number has are enough for it
chosen : (b : Bool) (count other number : ℕ) → (b ≡ true → number < 10 ^ count) → number < 10 ^ other → number < 10 ^ cond b count other
chosen true count other number h g = h refl
chosen false count other number h g = g

enough : (left count number : ℕ) → number < 10 ^ (count + left) → number < 10 ^ count_from left count number
unfolding count_from
enough zero count number h = let e : count + 0 ≡ count = omega arith in rw e at h
enough (suc left) count number h =
    let e : count + suc left ≡ suc count + left = omega arith in
    chosen (ltb number (10 ^ count)) count (count_from left (suc count) number) number (ltb-true number (10 ^ count)) (enough left (suc count) number (rw e at h))

pub decimal-said : (number : ℕ) → number < 10 ^ 20 → said_from 0 (decimal number) ≡ number
unfolding decimal
decimal-said number h = digits-said (digit_count number) number (enough 19 1 number h)
