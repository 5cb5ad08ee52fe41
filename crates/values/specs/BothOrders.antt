-- What is said of the same values in point order and by column is the same, but for the index that 12 names: what that means.
use Rattle.std.specs.Prelude.{◌≡◌, ◌⊎◌, ℕ, ◌<◌, Result, Ok, Err, ⊤}
use Rattle.refusals.specs.declared.Quantity.TheVariants.{Value}
use Rattle.refusals.specs.declared.Refusal.{Refusal}
use Rattle.refusals.specs.declared.Refusal.TheVariants.{OutOfRange}
use Rattle.orders.specs.Orders.{index}
use Rattle.orders.specs.declared.Order.TheVariants.{Point, Column}

-- a refusal that names no sample value
abbrev pub NamesNoValue : Refusal → Type 0
NamesNoValue refusal = (at channel : ℕ) → refusal ≡ OutOfRange (Value at channel) → ⊥

module _ (count k : ℕ) where
  -- the two indices of one number: that of a point and a rank in point order, and by column
  pub record OneNumber (row column : ℕ) : Type 0 where
    pub point : ℕ
    pub rank : ℕ
    pub counted : point < count
    pub among : rank < k
    pub in_rows : row ≡ index Point count k point rank
    pub in-columns : column ≡ index Column count k point rank

  -- both name one sample value, each by the index that it has there
  pub record OneValue (rows columns : Refusal) : Type 0 where
    pub row : ℕ
    pub column : ℕ
    pub channel : ℕ
    pub one : OneNumber row column
    pub in_rows : rows ≡ OutOfRange (Value row channel)
    pub in-columns : columns ≡ OutOfRange (Value column channel)

  -- the same refusal, but for the index that 12 names
  abbrev pub SameRefusal : (rows columns : Refusal) → Type 0
  SameRefusal rows columns = ((rows ≡ columns) × NamesNoValue rows) ⊎ OneValue rows columns

  abbrev pub SameJudgement : (rows columns : Result ⊤ Refusal) → Type 0
  SameJudgement (Ok _) (Ok _) = Unit {0}
  SameJudgement (Ok _) (Err refusal) = ⊥
  SameJudgement (Err refusal) (Ok _) = ⊥
  SameJudgement (Err rows) (Err columns) = SameRefusal rows columns
