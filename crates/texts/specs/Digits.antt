-- Numbers in decimal and bytes in hex, as bytes of a text, and what a text holds when they have joined it.
use Rattle.std.specs.Prelude.{◌≡◌, refl, cond, List, [], ◌∷◌, ◌++◌, ℕ, zero, suc, ◌+◌, ◌/◌, ◌%◌, ◌^◌, ltb, ℤ, pos, negsuc, get_or}
use Rattle.texts.specs.Gathered.{Gathered, gathered, joins, joins_all, room_from}

-- ---- Decimal

-- how many digits a number has: the first count whose power of ten is above it, among `count` and as many behind it as are `left`
unfoldable pub count_from : (left count number : ℕ) → ℕ
count_from zero count number = count
count_from (suc left) count number = cond (ltb number (10 ^ count)) count (count_from left (suc count) number)

-- one digit at least, and twenty hold every number of 64 bits
abbrev pub digit_count : (number : ℕ) → ℕ
digit_count number = count_from 19 1 number

-- so many digits from the end, the last one last (48 is `0`)
unfoldable pub last_digits : (count number : ℕ) → List ℕ
last_digits zero number = []
last_digits (suc count) number = last_digits count (number / 10) ++ (48 + number % 10) ∷ []

unfoldable pub decimal : (number : ℕ) → List ℕ
decimal number = last_digits (digit_count number) number

-- the digits of a number join a text that has room for twenty
unfoldable pub joins_number : Gathered → (number : ℕ) → Gathered
joins_number t number = joins_all (gathered t.bytes (room_from t.used)) (decimal number)

-- a number as a field: a space stands before it
abbrev pub joins_field : Gathered → (number : ℕ) → Gathered
joins_field t number = joins_number (joins t 0x20) number

-- a number with its sign: `-` stands before one below zero (`negsuc n` is -(n + 1))
unfoldable pub joins_long : Gathered → ℤ → Gathered
joins_long t (pos number) = joins_number t number
joins_long t (negsuc number) = joins_number (joins t 0x2D) (suc number)

-- ---- Hex

-- `0` to `9` and `A` to `F`
abbrev pub hex_digits : List ℕ
hex_digits = 48 ∷ 49 ∷ 50 ∷ 51 ∷ 52 ∷ 53 ∷ 54 ∷ 55 ∷ 56 ∷ 57 ∷ 65 ∷ 66 ∷ 67 ∷ 68 ∷ 69 ∷ 70 ∷ []

unfoldable pub hex_digit : (number : ℕ) → ℕ
hex_digit number = get_or hex_digits number 70

-- two digits for each byte
unfoldable pub hex_pairs : List ℕ → List ℕ
hex_pairs [] = []
hex_pairs (byte ∷ bytes) = hex_digit (byte / 16) ∷ hex_digit (byte % 16) ∷ hex_pairs bytes

-- `-` where there is no byte
unfoldable pub hex_word : List ℕ → List ℕ
hex_word [] = 0x2D ∷ []
hex_word (byte ∷ bytes) = hex_pairs (byte ∷ bytes)

-- ---- Examples

zero_is : decimal 0 ≡ 48 ∷ []
unfolding decimal last_digits count_from
zero_is = refl

thousand-is : decimal 1080 ≡ 49 ∷ 48 ∷ 56 ∷ 48 ∷ []
unfolding decimal last_digits count_from
thousand-is = refl

largest-is : decimal 18446744073709551615 ≡ 49 ∷ 56 ∷ 52 ∷ 52 ∷ 54 ∷ 55 ∷ 52 ∷ 52 ∷ 48 ∷ 55 ∷ 51 ∷ 55 ∷ 48 ∷ 57 ∷ 53 ∷ 53 ∷ 49 ∷ 54 ∷ 49 ∷ 53 ∷ []
unfolding decimal last_digits count_from
largest-is = refl

bytes-are : hex_word (0x0F ∷ 0xA5 ∷ []) ≡ 48 ∷ 70 ∷ 65 ∷ 53 ∷ []
unfolding hex_word hex_pairs hex_digit
bytes-are = refl
