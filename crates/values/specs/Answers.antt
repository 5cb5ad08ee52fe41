-- Each public function has one answer: whatever meets its promise is the same.
use Rattle.std.specs.Prelude.{◌≡◌, Bool, List, ℕ, ℤ}
use Rattle.formats.specs.OneAnswer.{OneAnswer, named}
use Rattle.formats.specs.Lent.{Writing, writing}
use Rattle.channels.specs.Channel.{width_of}
use Rattle.channels.specs.declared.Format.{Format}
use Rattle.values.specs.Values.{judgement_of, stored_sample, put_of}
use Rattle.orders.specs.declared.Order.{Order}

module _ (values : List ℤ) (count : ℕ) (format : Format) (stored : List Bool) (order : Order) where
  pub one-judged : OneAnswer (λ r. r ≡ judgement_of (width_of format) stored order count values)
  one-judged = named

  -- of the answer and the bytes together
  pub one-put : (out : List ℕ) (at : ℕ) → OneAnswer (λ (v : Writing ℕ). writing v.answer v.bytes ≡ put_of (width_of format) stored order count values out at)
  one-put out at = named

pub one-stored-sample : (format : Format) (channel : ℕ) (value : ℤ) → OneAnswer (λ r. r ≡ stored_sample (width_of format) channel value)
one-stored-sample format channel value = named
