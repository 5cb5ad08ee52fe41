-- What is known of a stored number among bytes: where it is there it is what a reader reads, and where there is room its digits are laid.
use Rattle.std.specs.Prelude.{◌≡◌, refl, List, [], ◌++◌, ℕ, zero, suc, ◌+◌, ◌-◌, ◌≤◌, ◌<◌, length, take, drop}
use Rattle.std.proofs.Common.{sym, ap, ◌∙◌, append-nil, arith, le-leb, length-drop, drop_of_length-le, length-take-le, get_or-take, drop-drop}
use Rattle.std.proofs.lemmas.Bool.{lt-leb}
use Rattle.formats.specs.Reader.{ok, read_at}
use Rattle.formats.specs.Number.{number, digits, value, at-number, length_digits}
use Rattle.formats.specs.Put.{puts, puts-is}
use Rattle.formats.specs.Laid.{Room, Laid}
use Rattle.formats.specs.Lent.{writing}
use Rattle.stored_numbers.specs.Numbers.{number_at, put_number}

-- ---- Where the bytes are there, and where they are not

module _ (w : ℕ) (s : List ℕ) (at : ℕ) where
  pub number-there : at + w ≤ length s → number_at w s at ≡ value w (drop at s)
  unfolding number_at
  number-there h = rw (le-leb (at + w) (length s) h)

  pub number_cut : length s < at + w → number_at w s at ≡ 0
  unfolding number_at
  number_cut h = rw (lt-leb (at + w) (length s) h)

  -- a number that is there is the one that is read
  pub number_read : {n : ℕ} → at + w ≤ length s → n ≡ number_at w s at → read_at (number w) s at ≡ ok n (at + w)
  number_read h e = rw (e, number-there h) (at-number w s at h)

  module _ (n : ℕ) where
    pub put-there : at + w ≤ length s → put_number w n s at ≡ writing (at + w) (puts s at (digits w n))
    unfolding put_number
    put-there h = rw (le-leb (at + w) (length s) h)

    pub put-crowded : length s < at + w → put_number w n s at ≡ writing at s
    unfolding put_number
    put-crowded h = rw (lt-leb (at + w) (length s) h)

    -- where there is room its digits are laid
    pub number-laid : {t : List ℕ} {end : ℕ} → Room s at (digits w n) → writing end t ≡ put_number w n s at → Laid s at (digits w n) t end
    number-laid r e =
        let f = e ∙ put-there (omega (arith, r.enough, length_digits w n)) in
        record { place = ap (λ x. x.answer) f ∙ ap (λ k. at + k) (sym (length_digits w n)); bytes = ap (λ x. x.bytes) f }

-- ---- Where code hands over the very bytes of a number, so that the compiler sees that they are there

-- the first n bytes of a string make the same number where those behind them are cut off
value-cut : (n m : ℕ) (s : List ℕ) → n ≤ m → value n (take m s) ≡ value n s
unfolding value
value-cut zero m s h = refl
value-cut (suc n) m s h = rw (value-cut n m s (omega arith), get_or-take m s n 0)

module _ (w : ℕ) (s : List ℕ) (at : ℕ) (h : at + w ≤ length s) (size : ℕ) (same : size ≡ w) where
  -- as a part is cut out: from a start to an end
  cut : at + size - at ≡ w
  cut = omega arith

  abbrev own : List ℕ
  own = take w (drop at s)

  own-length : length own ≡ w
  own-length = length-take-le w (drop at s) (simp length-drop (omega arith))

  pub part-read : {n : ℕ} → n ≡ number_at w (take (at + size - at) (drop at s)) 0 → read_at (number w) s at ≡ ok n (at + w)
  part-read e =
      number_read w s at h
      (rw cut at e ∙ number-there w own 0 (omega (arith, own-length)) ∙ value-cut w w (drop at s) (omega arith) ∙ sym (number-there w s at h))

  pub part-laid : (n : ℕ) {t : List ℕ} {end : ℕ} → writing end t ≡ put_number w n (take (at + size - at) (drop at s)) 0
      → Laid s at (digits w n) (take at s ++ (t ++ drop (at + size - at) (drop at s))) (at + size)
  part-laid n {t} e =
      let l = length_digits w n in
      let f = ap (λ x. x.bytes) (rw cut at e ∙ put-there w own 0 n (omega (arith, own-length))) in
      let g = puts-is own 0 (digits w n) (omega (arith, own-length, l)) in
      let z : drop (0 + length (digits w n)) own ≡ [] = drop_of_length-le own {i = 0 + length (digits w n)} (omega (arith, own-length, l)) in
      let k : at + size ≡ at + length (digits w n) = omega arith in
      let d : drop (at + size - at) (drop at s) ≡ drop (at + length (digits w n)) s =
      drop-drop (at + size - at) at s ∙ ap (λ i. drop i s) {x = at + (at + size - at)} {y = at + length (digits w n)} (omega arith) in
      record {
        place = k;
        bytes =
            ap (λ x. take at s ++ (x ++ drop (at + size - at) (drop at s))) (f ∙ g ∙ ap (λ x. digits w n ++ x) z ∙ append-nil (digits w n))
            ∙ ap (λ x. take at s ++ (digits w n ++ x)) d
            ∙ sym (puts-is s at (digits w n) (omega (arith, h, l)));
      }
