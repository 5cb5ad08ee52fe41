-- Numbers filled in, one after the other: each stands where its point and its rank have their index, and no later one takes its place.
use mathlib.Core.Path.{◌≡◌, refl, sym, ap, subst, ◌∙◌}
use mathlib.Core.Logic.{by_cases}
use mathlib.Core.Bool.{Bool, true, false}
use mathlib.Core.List.{List, [], ◌∷◌, ◌++◌, append-nil, append_assoc}
use Prim.Native.Nat.{ℕ, suc, ◌+◌, ◌*◌, ◌≤◌, ◌<◌}
use native.Mathlib.Decide.{dec_lt}
use native.Mathlib.Nat.{mul-le-mul_right}
use native.Mathlib.Omega.{arith}
use lib.IntN.{ℤ, pos}
use lib.ListN.{length, get_or, set, drop, length-set, length-append}
use lib.Seq.{get_or-set_same, get_or-set_other}
use Rattle.formats.specs.Fixed.{times-length}
use Rattle.formats.specs.Bytes.{impossible}
use Rattle.formats.specs.Compose.{ok-value}
use Rattle.formats.specs.Reader.{ok, read_at, times}
use Rattle.channels.specs.Channel.{S}
use Rattle.tip_switch.specs.Switch.{admitted, state_of}
use Rattle.points.specs.Points.{stored_from, channels, sample, point, sample_size, widths, width}
use Rattle.points.specs.SampleLaws.{switch-ok, switch-bad}
use Rattle.points.specs.Laws.{nth-point, nth-sample, point-size, widths-behind}
use Rattle.points.proofs.Samples.{stored-in, stored-out, stored-none}
use Rattle.orders.specs.Orders as orders
use Rattle.orders.specs.Orders.{size, values_of}
use Rattle.orders.proofs.OrderLaws.{rank_at, index-within, strides-within, rank-at, same-values, all-sized, values-many, value-is}
use Rattle.orders.specs.Parts.{AllAt}
use Rattle.orders.specs.declared.Order.{Order}
use Rattle.record_columns.specs.Parts.{NumberAt, ChannelFilled, PointsFilled}

-- ---- One number

-- what is read is one number
pub number_is : (s : List ℕ) (channel at : ℕ) {v : ℤ} {end : ℕ} → read_at (sample 2 channel) s at ≡ ok v end → NumberAt s channel at v
number_is s channel at e u n q = ok-value (sym e ∙ q)

-- of S it is the state that its byte stands for, where that was admitted
pub state-read : (s : List ℕ) (channel at : ℕ) → channel ≡ S → at < length s → NumberAt s channel at (state_of (get_or s at 0))
state-read s channel at e h v end q = go (admitted (get_or s at 0)) refl
  where
    go : (t : Bool) → admitted (get_or s at 0) ≡ t → state_of (get_or s at 0) ≡ v
    go true a = number_is s channel at (switch-ok 2 s at channel e h a) v end q
    go false a = impossible (cc (sym (switch-bad 2 s at channel e h a) ∙ q))

-- ---- Those of a channel

module _ (s : List ℕ) (channel start width from step : ℕ) (before : List ℤ) where
  pub none_filled : ChannelFilled s channel start width from step 0 before before
  none_filled = record { many = refl; numbers = λ i h. absurd (omega arith); others = λ at h. refl }

  apart : (i j : ℕ) → 0 < step → i < j → from + i * step ≡ from + j * step → ⊥
  apart i j some h e = omega (arith, mul-le-mul_right {m = suc i} {n = j} step (omega arith))

  module _ (i : ℕ) (now : List ℤ) (filled : ChannelFilled s channel start width from step i before now) (v : ℤ) (some : 0 < step) (there : from + i * step < length now) (is : NumberAt s channel (start + i * width) v) where
    pub next-filled : ChannelFilled s channel start width from step (i + 1) before (set now (from + i * step) v)
    next-filled = record {
      many = length-set now (from + i * step) v ∙ filled.many;
      numbers = λ j h.
          by_cases
          (dec_lt j i)
          (λ q. rw (get_or-set_other now (from + i * step) (from + j * step) v (pos 0) (apart j i some q)) (filled.numbers j q))
          (λ q. let z : j ≡ i = omega arith in rw (z, get_or-set_same now (from + i * step) v (pos 0) there) is);
      others = λ at h. get_or-set_other now (from + i * step) at v (pos 0) (h i (omega arith)) ∙ filled.others at (λ j q. h j (omega arith));
    }

-- ---- Those of all channels

module _ (s : List ℕ) (start : ℕ) (stored : List Bool) (count p d : ℕ) where
  -- the numbers of the first r stored channels are filled in: of point i and rank q the number stands i steps and q strides behind the start
  abbrev pub RanksFilled : (r : ℕ) → List ℤ → Type 0
  RanksFilled r values =
      (points : List (List ℤ)) (end : ℕ) → read_at (times count (point 2 stored)) s start ≡ ok points end
      → (i q : ℕ) → i < count → q < r → get_or values (i * p + q * d) (pos 0) ≡ get_or (get_or points i []) q (pos 0)

  -- some channels are gone through: the stored ones before, and those from `channel` on
  pub record Gone (channel at from : ℕ) (values : List ℤ) : Type 0 where
    pub before : List ℕ
    pub all : channels stored ≡ before ++ stored_from channel (drop channel stored)
    pub place : at ≡ start + widths 2 before
    pub index : from ≡ length before * d
    pub many : length values ≡ count * size stored
    pub filled : RanksFilled (length before) values

  pub none-gone : (values : List ℤ) → length values ≡ count * size stored → Gone 0 start 0 values
  unfolding channels widths
  none-gone values h = record { before = []; all = refl; place = omega arith; index = omega arith; many = h; filled = λ points end e i q f g. absurd (omega arith) }

  module _ (channel at from : ℕ) (values : List ℤ) (gone : Gone channel at from values) (within : channel < length stored) where
    pub gone-past : get_or stored channel false ≡ false → Gone (channel + 1) at from values
    gone-past e = record {
      before = gone.before;
      all = gone.all ∙ ap (λ l. gone.before ++ l) (stored-out stored channel within e);
      place = gone.place;
      index = gone.index;
      many = gone.many;
      filled = gone.filled;
    }

    -- the next is stored: its numbers lie in the bytes and have their places in the buffer
    module _ (is : get_or stored channel false ≡ true) (order : Order) (step : p ≡ orders.step order (size stored)) (stride : d ≡ orders.stride order count) (room : start + count * width 2 stored ≤ length s) where
      abbrev rank : ℕ
      rank = length gone.before

      abbrev rest : List ℕ
      rest = stored_from (channel + 1) (drop (channel + 1) stored)

      next : channels stored ≡ gone.before ++ (channel ∷ rest)
      next = gone.all ∙ ap (λ l. gone.before ++ l) (stored-in stored channel within is)

      among : rank < size stored
      among = omega (arith, ap length next, length-append gone.before (channel ∷ rest))

      index_is : (i q : ℕ) → i * p + q * d ≡ orders.index order count (size stored) i q
      index_is i q = rw (step, stride)

      wide : widths 2 gone.before + sample_size 2 channel ≤ width 2 stored
      unfolding width widths
      wide = omega (arith, ap (widths 2) next, widths-behind 2 gone.before (channel ∷ rest))

      pub some : 0 < size stored
      some = omega (arith, among)

      pub place-within : at + sample_size 2 channel ≤ length s + width 2 stored
      place-within = omega (arith, room, wide, gone.place)

      pub next-within : from + d ≤ length values + size stored
      next-within =
          let z : from + d ≡ (rank + 1) * d = omega (arith, gone.index) in
          omega (arith, z, ap (λ n. (rank + 1) * n) stride, strides-within count (size stored) rank among order, gone.many)

      pub bytes-there : AllAt (λ i. i + sample_size 2 channel ≤ length s) (width 2 stored) count at
      bytes-there i h = omega (arith, room, wide, gone.place, mul-le-mul_right {m = suc i} {n = count} (width 2 stored) (omega arith))

      pub places-there : AllAt (λ i. i < length values) p count from
      places-there i h = omega (arith, gone.index, gone.many, index_is i rank, index-within count (size stored) i rank h among order)

      module _ (after : List ℤ) (fills : ChannelFilled s channel at (width 2 stored) from p count values after) where
        -- an earlier number is in no place of these
        kept : (i q : ℕ) → i < count → q < rank → (j : ℕ) → j < count → i * p + q * d ≡ from + j * p → ⊥
        kept i q h g j f e =
            let z : orders.index order count (size stored) i q ≡ orders.index order count (size stored) j rank = sym (index_is i q) ∙ e ∙ omega (arith, gone.index) ∙ index_is j rank in
            let y = sym (rank-at count (size stored) i q h (omega (arith, among)) order) ∙ ap (rank_at order count (size stored)) z ∙ rank-at count (size stored) j rank f among order in
            omega (arith, y)

        more-filled : RanksFilled (rank + 1) after
        more-filled points end e i q h g =
            by_cases
            (dec_lt q rank)
            (λ f. fills.others (i * p + q * d) (kept i q h f) ∙ gone.filled points end e i q h f)
            (λ f.
            let z : q ≡ rank = omega arith in
            let lies : start + i * width 2 stored ≤ length s = omega (arith, room, mul-le-mul_right {m = i} {n = count} (width 2 stored) (omega arith)) in
            let point = nth-point 2 stored s count start points end (omega (arith, room)) e i h in
            let number = nth-sample 2 stored s (start + i * width 2 stored) (get_or points i []) _ lies point gone.before channel rest next in
            let y : start + i * width 2 stored + widths 2 gone.before ≡ at + i * width 2 stored = omega (arith, gone.place) in
            let x : i * p + rank * d ≡ from + i * p = omega (arith, gone.index) in
            rw z
            (ap (λ j. get_or after j (pos 0)) x
            ∙ fills.numbers i h _ _ (ap (read_at (sample 2 channel) s) (sym y) ∙ number)))

        pub gone-next : Gone (channel + 1) (at + sample_size 2 channel) (from + d) after
        unfolding widths
        gone-next =
            let n = length-append gone.before (channel ∷ []) in
            record {
              before = gone.before ++ (channel ∷ []);
              all = next ∙ sym (append_assoc gone.before (channel ∷ []) rest);
              place = omega (arith, gone.place, widths-behind 2 gone.before (channel ∷ []));
              index = let z : from + d ≡ (rank + 1) * d = omega (arith, gone.index) in z ∙ ap (λ r. r * d) (sym n);
              many = fills.many ∙ gone.many;
              filled = let z : rank + 1 ≡ length (gone.before ++ (channel ∷ [])) = sym n in subst (λ r. RanksFilled r after) z more-filled;
            }

  -- where none is left, the numbers are those of the points
  module _ (channel at from : ℕ) (values : List ℤ) (gone : Gone channel at from values) (past : length stored ≤ channel) (order : Order) (step : p ≡ orders.step order (size stored)) (stride : d ≡ orders.stride order count)
      (room : start + count * width 2 stored ≤ length s) where
    all-ranks : length gone.before ≡ size stored
    all-ranks = sym (ap length (gone.all ∙ ap (λ l. gone.before ++ l) (stored-none stored channel past) ∙ append-nil gone.before))

    pub all-filled : PointsFilled s start stored count order values
    all-filled points end e =
        let k = size stored in
        let many = times-length (point 2 stored) s count start e in
        let sizes = all-sized k points (λ i h. point-size 2 stored s _ (get_or points i []) _ (nth-point 2 stored s count start points end (omega (arith, room)) e i (omega (arith, many)))) in
        same-values count k order values (values_of order k points) gone.many (values-many k points sizes order ∙ ap (λ n. n * k) many) (λ i q h g.
        ap (λ j. get_or values j (pos 0)) {x = orders.index order count k i q} {y = i * p + q * d} (sym (rw (step, stride)))
        ∙ gone.filled points end e i q h (omega (arith, all-ranks))
        ∙ sym (value-is k points sizes order i q (omega (arith, many)) g)
        ∙ ap (λ n. get_or (values_of order k points) (orders.index order n k i q) (pos 0)) many)
