-- Of many parts of one width the ith stands where it would, and what has one width.
use Rattle.std.specs.Prelude.{◌≡◌, Bool, true, false, List, [], ℕ, zero, suc, ◌+◌, ◌*◌, ◌≤◌, ◌<◌, length, get_or}
use Rattle.std.proofs.Math.Path.{refl}
use Rattle.std.proofs.Common.{sym, ap, ◌∙◌, arith}
use Rattle.std.proofs.Math.Logic.{by_cases}
use Rattle.std.proofs.Math.Decide.{dec_lt}
use Rattle.formats.specs.Bytes.{impossible}
use Rattle.formats.specs.Reader.{Test, Reader, done, ok, read_at, one, times}
use Rattle.formats.specs.Compose.{at_done, at-times, at-short, at-pass, at-fail}
use Rattle.formats.proofs.Ends.{at-within}
use Rattle.formats.specs.Number.{number, at-number}
use Rattle.formats.proofs.NumberLaws.{at-number-short}
use Rattle.formats.specs.Fixed.{Fixed, fixed-done, parts}

-- the ith of n
module _ {A : Type 0} (r : Reader A) (w : ℕ) (fixed : Fixed r w) (d : A) (s : List ℕ) where
  pub nth : (n at : ℕ) {vs : List A} {m : ℕ} → at ≤ length s → read_at (times n r) s at ≡ ok vs m
      → (i : ℕ) → i < n → read_at r s (at + i * w) ≡ ok (get_or vs i d) (at + i * w + w)
  nth zero at h e i q = absurd (omega arith)
  nth (suc n) at h e zero q =
      let p = parts s (read_at r s at) (read_at (times n r) s) (sym (at-times s at n r) ∙ e) in
      let z : at + 0 * w ≡ at = omega arith in
      let f : p.place ≡ at + w = fixed s at p.head p.place h p.first in
      rw (z, p.whole) (p.first ∙ ap (ok p.head) f)
  nth (suc n) at h e (suc i) q =
      let p = parts s (read_at r s at) (read_at (times n r) s) (sym (at-times s at n r) ∙ e) in
      let z : at + suc i * w ≡ at + w + i * w = omega arith in
      let f : p.place ≡ at + w = fixed s at p.head p.place h p.first in
      rw (z, p.whole) (nth n (at + w) (rw f at (at-within r s at p.first h).1) (rw f at p.second) i (omega arith))

pub fixed-one : (c : Test) → Fixed (one c) 1
unfolding one
fixed-one c s at v n h e =
    by_cases
    (dec_lt at (length s))
    (λ q. go q (c.holds (get_or s at 0)) refl)
    (λ q. impossible (cc (at-short c done s at (omega arith))))
  where
    go : at < length s → (t : Bool) → c.holds (get_or s at 0) ≡ t → n ≡ at + 1
    go q true g = cc (at-pass c done s at q g, at_done (get_or s at 0) s (at + 1))
    go q false g = impossible (cc (at-fail c done s at q g))

pub fixed_number : (k : ℕ) → Fixed (number k) k
fixed_number k s at v n h e =
    by_cases
    (dec_lt (length s) (at + k))
    (λ q. impossible (cc (at-number-short k s at (omega arith))))
    (λ q. let g = at-number k s at (omega arith) in cc)

pub fixed-times : {A : Type 0} (r : Reader A) (w : ℕ) → Fixed r w → (k : ℕ) → Fixed (times k r) (k * w)
unfolding times
fixed-times r w f zero s at vs n h e = let z : 0 * w ≡ 0 = omega arith in rw z (fixed-done [] s at vs n h e)
fixed-times r w f (suc k) s at vs n h e =
    let p = parts s (read_at r s at) (read_at (times k r) s) (sym (at-times s at k r) ∙ e) in
    let a : p.place ≡ at + w = f s at p.head p.place h p.first in
    let b : n ≡ p.place + k * w = fixed-times r w f k s p.place p.tail n (at-within r s at p.first h).1 p.second in
    omega arith
