-- Laws of bytes that join a text: one at a time, or put where they belong where there is room; and of the digits that do.
use Rattle.std.specs.Prelude.{◌≡◌, refl, true, false, List, [], ◌∷◌, ◌++◌, ℕ, zero, suc, ◌+◌, ◌-◌, ◌/◌, ◌%◌, ◌^◌, ◌≤◌, ◌<◌, ℤ, pos, negsuc, nat_abs, length, drop, get_or, set}
use Rattle.std.proofs.Common.{sym, ap, ◌∙◌, add-one, arith, drop_of_length-le, length-append, drop-cons, ne_eqb, eq-eqb, lt-ltb, le-ltb, ltb-true}
use Rattle.std.proofs.Math.Logic.{by_cases}
use Rattle.std.proofs.Math.Decide.{dec_lt}
use Rattle.std.specs.Int.Signed.{lt_z}
use Rattle.std.proofs.Math.ListN.{get_or-eq_default}
use Rattle.std.proofs.lemmas.List.{set_comm}
use Rattle.formats.specs.Bytes.{impossible}
use Rattle.formats.specs.Put.{puts}
use Rattle.texts.specs.Gathered.{Gathered, gathered, joins, joins_all, room_from}
use Rattle.texts.specs.Digits.{count_from, digit_count, last_digits, decimal, joins_number, joins_long, hex_digits, hex_digit, hex_pairs, hex_word}

-- ---- One byte

-- a byte that is not the array's last, and the one that is
pub joins-within : (s : List ℕ) (used byte : ℕ) → used < 65535 → joins (gathered s used) byte ≡ gathered (set s used byte) (used + 1)
unfolding joins
joins-within s used byte h = rw (ne_eqb used 65535 (λ e. omega arith))

pub joins-last : (s : List ℕ) (used byte : ℕ) → used ≡ 65535 → joins (gathered s used) byte ≡ gathered (set s used byte) 0
unfolding joins
joins-last s used byte e = rw (eq-eqb used 65535 e)

-- ---- A loop

-- what the bytes from a place on make of a text is what the first of them makes, and then the others
pub joins-next : (t : Gathered) (b : List ℕ) (i : ℕ) → i < length b → joins_all t (drop i b) ≡ joins_all (joins t (get_or b i 0)) (drop (i + 1) b)
unfolding joins_all
joins-next t b i h = rw (drop-cons b i 0 h, add-one i)

pub joins-none : (t : Gathered) (b : List ℕ) (i : ℕ) → length b ≤ i → joins_all t (drop i b) ≡ t
unfolding joins_all
joins-none t b i h = rw (drop_of_length-le b {i = i} h)

-- the same where there is room and the byte is put at once
pub joins-copied : (s b : List ℕ) (first i : ℕ) → i < length b → first + length b < 65536
    → joins_all (gathered s (first + i)) (drop i b) ≡ joins_all (gathered (set s (first + i) (get_or b i 0)) (first + (i + 1))) (drop (i + 1) b)
joins-copied s b first i h g =
    let z : first + i + 1 ≡ first + (i + 1) = omega arith in
    joins-next (gathered s (first + i)) b i h ∙ rw (joins-within s (first + i) (get_or b i 0) (omega arith), z)

-- ---- Bytes that there is room for

pub joins-put : (s : List ℕ) (used : ℕ) (b : List ℕ) → used + length b < 65536 → joins_all (gathered s used) b ≡ gathered (puts s used b) (used + length b)
unfolding joins_all puts
joins-put s used [] h = let e : used + 0 ≡ used = omega arith in rw e
joins-put s used (x ∷ b) h =
    let e : used + suc (length b) ≡ used + 1 + length b = omega arith in
    rw (joins-within s used x (omega arith), e) (joins-put (set s used x) (used + 1) b (omega arith))

-- the last byte may be put first
pub puts-last : (s : List ℕ) (at : ℕ) (b : List ℕ) (x : ℕ) → puts s at (b ++ x ∷ []) ≡ puts (set s (at + length b) x) at b
unfolding puts
puts-last s at [] x = let e : at + 0 ≡ at = omega arith in rw e
puts-last s at (y ∷ b) x =
    let e : at + suc (length b) ≡ at + 1 + length b = omega arith in
    rw e (puts-last (set s at y) (at + 1) b x ∙ ap (λ t. puts t (at + 1) b) (set_comm s at (at + 1 + length b) y x (λ q. omega arith)))

-- ---- Digits

-- a count of digits that are too few, and of enough
pub count_next : (count number : ℕ) → count < 20 → 10 ^ count ≤ number → count_from (20 - count) count number ≡ count_from (20 - suc count) (suc count) number
unfolding count_from
count_next count number h g = let e : 20 - count ≡ suc (20 - suc count) = omega arith in rw (e, le-ltb number (10 ^ count) g)

pub count-here : (count number : ℕ) → count < 20 → number < 10 ^ count → count_from (20 - count) count number ≡ count
unfolding count_from
count-here count number h g = let e : 20 - count ≡ suc (20 - suc count) = omega arith in rw (e, lt-ltb number (10 ^ count) g)

pub count-twenty : (number : ℕ) → 10 ^ 19 ≤ number → count_from 1 19 number ≡ 20
unfolding count_from
count-twenty number h = rw (le-ltb number (10 ^ 19) h)

pub length_digits : (count number : ℕ) → length (last_digits count number) ≡ count
unfolding last_digits
length_digits zero number = refl
length_digits (suc count) number = length-append (last_digits count (number / 10)) _ ∙ rw (length_digits count (number / 10)) (omega arith)

-- the last digit is put first, and what is left of the number has the others
pub digits_last : (s : List ℕ) (first at number : ℕ) → first < at
    → puts s first (last_digits (at - first) number) ≡ puts (set s (at - 1) (48 + number % 10)) first (last_digits (at - 1 - first) (number / 10))
unfolding last_digits
digits_last s first at number h =
    let e : at - first ≡ suc (at - 1 - first) = omega arith in
    let z : first + (at - 1 - first) ≡ at - 1 = omega arith in
    rw e
    (puts-last s first (last_digits (at - 1 - first) (number / 10)) (48 + number % 10)
    ∙ rw (length_digits (at - 1 - first) (number / 10), z))

-- digits that were put where there is room, the last one first, have joined the text
pub number-joined : (s t : List ℕ) (start first count number at rest : ℕ) → first ≡ room_from start → count ≡ digit_count number → first + count < 65536 → at ≤ first
    → puts s first (last_digits (first + count - first) number) ≡ puts t first (last_digits (at - first) rest)
    → gathered t (first + count) ≡ joins_number (gathered s start) number
unfolding joins_number decimal last_digits puts
number-joined s t start first count number at rest e g h k q =
    let all : first + count - first ≡ count = omega arith in
    let none : at - first ≡ 0 = omega arith in
    let z : length (last_digits count number) ≡ count = length_digits count number in
    rw (← e, ← g) (sym (joins-put s first (last_digits count number) (omega (arith, z)) ∙ rw (z, rw (all, none) at q)))

-- ---- A sign

pub long-below : (t : Gathered) (z : ℤ) (u : Gathered) (n : ℕ) → lt_z z (pos 0) ≡ true → u ≡ joins t 0x2D → n ≡ nat_abs z → joins_number u n ≡ joins_long t z
unfolding joins_long
long-below t (pos m) u n q e g = absurd (omega (arith, ltb-true m 0 q))
long-below t (negsuc m) u n q e g = rw (e, g)

pub long-above : (t : Gathered) (z : ℤ) (u : Gathered) (n : ℕ) → lt_z z (pos 0) ≡ false → u ≡ t → n ≡ nat_abs z → joins_number u n ≡ joins_long t z
unfolding joins_long
long-above t (pos m) u n q e g = rw (e, g)
long-above t (negsuc m) u n q e g = impossible (cc)

-- ---- Hex

pub last-digit : (number : ℕ) → 15 ≤ number → hex_digit number ≡ 70
unfolding hex_digit
last-digit number h =
    by_cases
    (dec_lt 15 number)
    (λ q. get_or-eq_default hex_digits 70 {n = number} (omega arith))
    (λ q. let z : number ≡ 15 = omega arith in rw z)

pub hex-empty : (t : Gathered) (b : List ℕ) → length b ≡ 0 → joins t 0x2D ≡ joins_all t (hex_word b)
unfolding hex_word joins_all
hex-empty t [] e = refl
hex-empty t (x ∷ b) e = impossible (cc)

pub hex-bytes : (b : List ℕ) → (length b ≡ 0 → ⊥) → hex_word b ≡ hex_pairs b
unfolding hex_word
hex-bytes [] h = absurd (h refl)
hex-bytes (x ∷ b) h = refl

pub hex-next : (t : Gathered) (b : List ℕ) (i : ℕ) → i < length b
    → joins_all t (hex_pairs (drop i b)) ≡ joins_all (joins (joins t (hex_digit (get_or b i 0 / 16))) (hex_digit (get_or b i 0 % 16))) (hex_pairs (drop (i + 1) b))
unfolding joins_all hex_pairs
hex-next t b i h = rw (drop-cons b i 0 h, add-one i)

pub hex-none : (t : Gathered) (b : List ℕ) (i : ℕ) → length b ≤ i → joins_all t (hex_pairs (drop i b)) ≡ t
unfolding joins_all hex_pairs
hex-none t b i h = rw (drop_of_length-le b {i = i} h)
