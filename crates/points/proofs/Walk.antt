-- Points with a switch: all their bytes are free but the switch's, which stands at one offset in each.
use Rattle.std.specs.Prelude.{Ok, Err}
use mathlib.Core.Path.{◌≡◌, refl, sym, ap, ap₂, ◌∙◌}
use mathlib.Core.Logic.{by_cases}
use mathlib.Core.Bool.{Bool, true, false, cond}
use mathlib.Core.List.{List, [], ◌∷◌, ◌++◌}
use Prim.Native.Nat.{ℕ, zero, suc, ◌+◌, ◌-◌, ◌≤◌, ◌<◌}
use native.Mathlib.Decide.{dec_lt}
use native.Mathlib.Omega.{arith}
use borrow.Author.Tests.{le-leb, lt-leb}
use lib.ListN.{length, get_or, take, drop, length-take, get_or-eq_default}
use Rattle.formats.specs.Bytes.{impossible}
use Rattle.formats.specs.Reader.{read_at, each, times}
use Rattle.formats.specs.Number.{at-number}
use Rattle.formats.specs.Jump.{ends, ends-sum}
use Rattle.formats.specs.Told.{told, repeated, each-done, each-failed}
use Rattle.formats.proofs.Ends.{times-repeated}
use Rattle.formats.specs.Writes.{All}
use Rattle.formats.specs.declared.Failure.TheVariants.{Short, Bad}
use Rattle.channels.specs.Channel.{S}
use Rattle.tip_switch.specs.Switch.{admitted}
use Rattle.points.specs.Points.{sample, point, stored_from, channels, widths, width}
use Rattle.points.specs.Parts.{switched}
use Rattle.points.specs.Laws.{widths-behind}
use Rattle.points.specs.SampleLaws.{Wide, wide-size, wide_ok, wide_short, switch-short, switch-ok, switch-bad}
use Rattle.points.proofs.Samples.{each-jumps, no_switch, stored-in, width-in}

-- ---- The tests of the definition

module _ (s : List ℕ) (at width offset : ℕ) where
  pub switched-short : length s ≤ at + offset → switched s at width offset ≡ Err Short
  unfolding switched
  switched-short h = rw (le-leb (length s) (at + offset) h)

  pub switched-bad : at + offset < length s → admitted (get_or s (at + offset) 0) ≡ false → switched s at width offset ≡ Err (Bad 8 (at + offset))
  unfolding switched
  switched-bad h e = rw (lt-leb (length s) (at + offset) h, e)

  pub switched-ends : at + offset < length s → admitted (get_or s (at + offset) 0) ≡ true → switched s at width offset ≡ ends s at width
  unfolding switched
  switched-ends h e = rw (lt-leb (length s) (at + offset) h, e)

-- ---- A point, by its switch

-- the numbers before the switch are passed over, if they are there
module _ (w : ℕ) (m s : List ℕ) where
  wide-done : (channel at : ℕ) → Wide channel → at + w ≤ length s → Ok (at + w) ≡ told (read_at (sample w channel) s at)
  unfolding told
  wide-done channel at e h = sym (ap told (wide_ok w s at channel e (at-number w s at h)))

  over : (l : List ℕ) → All Wide l → (at : ℕ) → at + widths w l ≤ length s
      → told (read_at (each (l ++ m) (sample w)) s at) ≡ told (read_at (each m (sample w)) s (at + widths w l))
  unfolding widths
  over [] h at q = let z : at + 0 ≡ at = omega arith in rw z
  over (channel ∷ l) h at q =
      let e = wide-size w channel h.0 in
      let z : at + (w + widths w l) ≡ at + w + widths w l = omega arith in
      rw (e, z) (each-done channel (l ++ m) (sample w) s at (wide-done channel at h.0 (omega arith)) ∙ over l h.1 (at + w) (omega arith))

  out : (l : List ℕ) → All Wide l → (at : ℕ) → at ≤ length s → length s < at + widths w l → told (read_at (each (l ++ m) (sample w)) s at) ≡ Err Short
  unfolding widths told
  out [] h at g q = absurd (omega arith)
  out (channel ∷ l) h at g q =
      let e = wide-size w channel h.0 in
      by_cases
      (dec_lt (length s) (at + w))
      (λ r. each-failed channel (l ++ m) (sample w) s at (sym (ap told (wide_short w s at channel h.0 (omega arith)))))
      (λ r. each-done channel (l ++ m) (sample w) s at (wide-done channel at h.0 (omega arith)) ∙ out l h.1 (at + w) (omega arith) (omega arith))

-- the channels before one, and those from it on
stored-split : (n i : ℕ) (stored : List Bool) → stored_from i stored ≡ stored_from i (take n stored) ++ stored_from (i + n) (drop n stored)
unfolding stored_from
stored-split zero i stored = let z : i + 0 ≡ i = omega arith in rw z
stored-split (suc n) i [] = refl
stored-split (suc n) i (flag ∷ stored) =
    let z : suc i + n ≡ i + suc n = omega arith in
    go flag (rw z at (stored-split n (suc i) stored))
  where
    go : (t : Bool) → stored_from (suc i) stored ≡ stored_from (suc i) (take n stored) ++ stored_from (i + suc n) (drop n stored)
        → cond t (i ∷ stored_from (suc i) stored) (stored_from (suc i) stored)
        ≡ cond t (i ∷ stored_from (suc i) (take n stored)) (stored_from (suc i) (take n stored)) ++ stored_from (i + suc n) (drop n stored)
    go true e = ap (λ l. i ∷ l) e
    go false e = e

-- numbers, a switch, and numbers
module _ (w : ℕ) (before behind : List ℕ) (h : All Wide before) (g : All Wide behind) (s : List ℕ) (at : ℕ) (within : at ≤ length s) where
  abbrev offset : ℕ
  offset = widths w before

  abbrev whole : ℕ
  whole = widths w (before ++ S ∷ behind)

  wide : whole ≡ offset + (1 + widths w behind)
  unfolding widths
  wide = widths-behind w before (S ∷ behind)

  at-switch : at + offset ≤ length s → told (read_at (each (S ∷ behind) (sample w)) s (at + offset)) ≡ switched s at whole offset
  unfolding told
  at-switch q =
      by_cases
      (dec_lt (at + offset) (length s))
      (λ r. by-test r (admitted (get_or s (at + offset) 0)) refl)
      (λ r.
      each-failed S behind (sample w) s (at + offset) (sym (ap told (switch-short w s (at + offset) S refl (omega arith))))
      ∙ sym (switched-short s at whole offset (omega arith)))
    where
      by-test : at + offset < length s → (t : Bool) → admitted (get_or s (at + offset) 0) ≡ t → told (read_at (each (S ∷ behind) (sample w)) s (at + offset)) ≡ switched s at whole offset
      by-test r true e =
          let z : at + offset + 1 ≡ at + (offset + 1) = omega arith in
          let x : offset + 1 + widths w behind ≡ whole = omega (arith, wide) in
          each-done S behind (sample w) s (at + offset) (sym (ap told (switch-ok w s (at + offset) S refl r e)))
          ∙ rw z (each-jumps w behind g s (at + (offset + 1)) (omega arith) ∙ ends-sum s at (offset + 1) (widths w behind) ∙ ap (ends s at) x)
          ∙ sym (switched-ends s at whole offset r e)
      by-test r false e =
          each-failed S behind (sample w) s (at + offset) (sym (ap told (switch-bad w s (at + offset) S refl r e))) ∙ sym (switched-bad s at whole offset r e)

  by-switch : told (read_at (each (before ++ S ∷ behind) (sample w)) s at) ≡ switched s at whole offset
  by-switch =
      by_cases
      (dec_lt (length s) (at + offset))
      (λ q. out w (S ∷ behind) s before h at within q ∙ sym (switched-short s at whole offset (omega arith)))
      (λ q. over w (S ∷ behind) s before h at (omega arith) ∙ at-switch (omega arith))

module _ (w : ℕ) (stored : List Bool) (e : get_or stored S false ≡ true) where
  there : S < length stored
  there = by_cases (dec_lt S (length stored)) (λ h. h) (λ h. impossible (cc (get_or-eq_default stored false {n = S} (omega arith))))

  abbrev before : List ℕ
  before = stored_from 0 (take S stored)

  abbrev behind : List ℕ
  behind = stored_from 11 (drop 11 stored)

  parted : channels stored ≡ before ++ S ∷ behind
  unfolding channels
  parted = stored-split S 0 stored ∙ ap (λ l. before ++ l) (stored-in stored S there e)

  from-switch : widths w (stored_from S (drop S stored)) ≡ 1 + widths w behind
  unfolding widths
  from-switch = width-in w stored S there e

  -- no other channel is the switch
  wide-before : All Wide before
  wide-before = no_switch (take S stored) 0 (λ j q. let z : j ≡ S = omega arith in rw z (get_or-eq_default (take S stored) false {n = S} (omega (arith, length-take S stored))))

  wide-behind : All Wide behind
  wide-behind = no_switch (drop 11 stored) 11 (λ j q. absurd (omega arith))

  sized : widths w (channels stored) ≡ widths w before + widths w (stored_from S (drop S stored))
  unfolding channels
  sized = ap (widths w) (stored-split S 0 stored) ∙ widths-behind w before (stored_from S (drop S stored))

  -- where a point with a switch ends
  pub switch-point : (s : List ℕ) (at : ℕ) → at ≤ length s
      → told (read_at (point w stored) s at) ≡ switched s at (width w stored) (width w stored - widths w (stored_from S (drop S stored)))
  unfolding point width
  switch-point s at h =
      let o : widths w before ≡ widths w (channels stored) - widths w (stored_from S (drop S stored)) = omega (arith, sized) in
      ap (λ l. told (read_at (each l (sample w)) s at)) parted
      ∙ by-switch w before behind wide-before wide-behind s at h
      ∙ ap₂ (switched s at) (sym (ap (widths w) parted)) o

  -- by the width of a point, and of what it has from the switch on
  module _ (all part : ℕ) (x : all ≡ width w stored) (y : part ≡ widths w (stored_from S (drop S stored))) where
    pub switch-inside : (part ≤ all) × (all - part < all)
    unfolding width
    switch-inside = omega (arith, sized, from-switch)

    pub switch-points : (s : List ℕ) (n at : ℕ) → at ≤ length s
        → told (read_at (times n (point w stored)) s at) ≡ repeated (λ p. switched s p all (all - part)) n at
    switch-points s n at h = rw (x, y) (times-repeated (point w stored) s _ (switch-point s) n at h)
