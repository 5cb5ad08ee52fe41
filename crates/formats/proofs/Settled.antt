-- A reader's refusal, found from what the reader says of the beginnings: what follows of `Law`.
use Rattle.std.specs.Prelude.{◌≡◌, refl, List, [], ◌++◌, ℕ, suc, ◌<◌, length, take, drop}
use Rattle.std.proofs.Common.{sym, ap, ◌∙◌, append-nil, arith, take-append-drop, take-take, length-take-le}
use Rattle.std.proofs.Math.Logic.{by_cases}
use Rattle.std.proofs.Math.Decide.{dec_lt}
use Rattle.formats.specs.Bytes.{bytes-nil, impossible}
use Rattle.formats.specs.Reader.{Reader, Answer, ok, short, bad, run}
use Rattle.formats.specs.Law.{Begun}
use Rattle.formats.proofs.Lawful.{begins, whole, refused}

module _ {A : Type 0} (r : Reader A) (s : List ℕ) where
  -- the first byte after which nothing that r takes can begin, where what stands before it is a proper beginning, is refused
  pub first-refused : (p : ℕ) → p < length s → run r (take p s) ≡ short → (Begun r (take (suc p) s) → ⊥) → (k : ℕ) × (run r s ≡ bad k p)
  first-refused p h e none = go (run r (take (suc p) s)) refl
    where
      go : (x : Answer A) → run r (take (suc p) s) ≡ x → (k : ℕ) × (run r s ≡ bad k p)
      go (ok v n) q =
          let w = whole r (take (suc p) s) q in
          by_cases
          (dec_lt n (suc p))
          (λ c.
          let x : run r (take n (take (suc p) s) ++ drop n (take p s)) ≡ ok v n = w.same (drop n (take p s)) in
          let y : take n (take (suc p) s) ≡ take n (take p s) = take-take n (suc p) s (omega arith) ∙ sym (take-take n p s (omega arith)) in
          let z : run r (take p s) ≡ ok v n = rw (take-append-drop n (take p s)) at (rw y at x) in
          impossible (cc))
          (λ c.
          let m : n ≡ length (take (suc p) s) = omega (arith, w.within, length-take-le (suc p) s (omega arith)) in
          absurd (none (record { rest = []; value = v; bytes = bytes-nil; reads = rw append-nil (q ∙ ap (ok v) m) })))
      go short q = absurd (none (begins r (take (suc p) s) q))
      go (bad k j) q =
          let w = refused r (take (suc p) s) q in
          by_cases
          (dec_lt j p)
          (λ c.
          let x : run r (take (suc j) (take (suc p) s) ++ drop (suc j) (take p s)) ≡ bad k j = w.same (drop (suc j) (take p s)) in
          let y : take (suc j) (take (suc p) s) ≡ take (suc j) (take p s) = take-take (suc j) (suc p) s (omega arith) ∙ sym (take-take (suc j) p s (omega arith)) in
          let z : run r (take p s) ≡ bad k j = rw (take-append-drop (suc j) (take p s)) at (rw y at x) in
          impossible (cc))
          (λ c.
          let m : j ≡ p = omega (arith, w.within, length-take-le (suc p) s (omega arith)) in
          let x : run r (take (suc j) (take (suc p) s) ++ drop (suc p) s) ≡ bad k j = w.same (drop (suc p) s) in
          let y : take (suc j) (take (suc p) s) ≡ take (suc p) s = rw m (take-take (suc p) (suc p) s (omega arith)) in
          (k, rw (take-append-drop (suc p) s) at (rw y at x) ∙ ap (bad k) m))
