-- A description refuses the bytes that break rule 4 or 5, and no others: by the lines of its layout.
use Rattle.std.specs.Prelude.{◌≡◌, refl, Bool, true, not, cond, List, [], ◌∷◌, ◌++◌, ℕ, zero, suc, ◌+◌, ◌*◌, ◌<◌, get_or}
use Rattle.std.proofs.Common.{sym, ap, ◌∙◌, append-nil, not-suc-le-zero, arith}
use Rattle.std.proofs.Math.Bool.{false}
use Rattle.std.proofs.lemmas.Bool.{not-false}
use Rattle.formats.specs.Bytes.{impossible}
use Rattle.formats.specs.Reader.{done, any}
use Rattle.formats.specs.Writes.{Writes, writes_as, writes_one}
use Rattle.formats.specs.Faults.{Faults, Never, Then, here, later, InPart, faults-as, faults-never, faults-last, never_done, never-bind}
use Rattle.formats.proofs.FaultsLaws.{faults-bind, faults-one, faults-each, never-any, never-number}
use Rattle.channels.specs.Channel.{channels, signed_of, width_of}
use Rattle.channels.specs.declared.Format.{Format}
use Rattle.formats.specs.Binary.{bit}
use Rattle.channels.specs.Descriptors.{absent}
use Rattle.descriptions.specs.Description.{has_xy, reserved, attribute, descriptor, includes, channel_of, description, encode_channel}
use Rattle.descriptions.specs.EncodedLaws.{writes-channel}
use Rattle.descriptions.specs.Rules.{Entry, Breaks, x_or_y, descriptor_bit}

-- ---- A channel

never-attribute : (w : ℕ) (signed flag : Bool) → Never (attribute w signed flag)
unfolding attribute
never-attribute w signed true = never-bind (never-number w) (λ n. never_done _)
never-attribute w signed false = never_done _

abbrev LowBit : Bool → List ℕ → ℕ → ℕ → Type 0
LowBit included before b k = (included ≡ true) × (k ≡ reserved.fault) × (before ≡ []) × (bit 1 b ≡ true)

module _ (w : ℕ) where
  faults-descriptor : (channel : ℕ) → Faults (descriptor w channel) (λ before b k. (k ≡ reserved.fault) × (before ≡ []) × (reserved.holds b ≡ false))
  unfolding descriptor
  faults-descriptor channel =
      faults-last (faults-one reserved) (λ b.
      never-bind (never-attribute 2 false (bit 8 b)) (λ scaling.
      never-bind (never-attribute w (signed_of channel) (bit 7 b)) (λ minimum.
      never-bind (never-attribute w (signed_of channel) (bit 6 b)) (λ maximum.
      never-bind (never-attribute w (signed_of channel) (bit 5 b)) (λ mean.
      never-bind (never-attribute w false (bit 4 b)) (λ deviation.
      never_done _))))))

  faults-included : (channel : ℕ) (t : Bool) → Faults (cond t (descriptor w channel) (done absent)) (LowBit t)
  faults-included channel true =
      faults-as (faults-descriptor channel) (λ before b k x. (refl, x.0, x.1, not-false (bit 1 b) x.2)) (λ before b k x. (x.1, x.2, ap not x.3))
  faults-included channel false = faults-as (faults-never (never_done absent)) (λ before b k x. absurd x) (λ before b k x. impossible (cc x.0))

  faults-channel : (inclusion channel : ℕ) → Faults (channel_of w inclusion channel) (LowBit (includes inclusion channel))
  unfolding channel_of
  faults-channel inclusion channel = faults-included channel (includes inclusion channel)

  writes-described : (inclusion channel : ℕ) → Writes (channel_of w inclusion channel) (encode_channel w channel) (Entry w inclusion channel)
  writes-described inclusion channel =
      writes_as
      (writes-channel w inclusion channel)
      (λ d h. (record { included = h.0; neat = h.1; ranges = h.2 }, refl))
      (λ d h. (h.included, h.neat, h.ranges))

-- ---- The channels in order

count : ℕ → ℕ → List ℕ
count i zero = []
count i (suc n) = i ∷ count (suc i) n

count_at : (i n c : ℕ) → c < n → get_or (count i n) c 0 ≡ i + c
unfolding count
count_at i zero c h = absurd (not-suc-le-zero h)
count_at i (suc n) zero h = omega arith
count_at i (suc n) (suc c) h = count_at (suc i) n c (omega arith) ∙ omega arith

channel-at : (c : ℕ) → c < 16 → get_or channels c 0 ≡ c
unfolding count
channel-at c h = count_at 0 16 c h ∙ omega arith

-- ---- The description

module _ (w : ℕ) where
  abbrev InChannels : ℕ → List ℕ → ℕ → ℕ → Type 0
  InChannels inclusion = InPart (encode_channel w) (Entry w inclusion) (λ channel. LowBit (includes inclusion channel)) 0 channels

  -- behind the first inclusion byte, and behind both
  abbrev Second : ℕ → List ℕ → ℕ → ℕ → Type 0
  Second first = Then (λ b. b ∷ []) (λ b. (b < 256) × (any.holds b ≡ true)) (λ before b k. ⊥) (λ second. InChannels (first * 256 + second))

  abbrev Lines : List ℕ → ℕ → ℕ → Type 0
  Lines = Then (λ b. b ∷ []) (λ b. (b < 256) × (has_xy.holds b ≡ true)) (λ before b k. (k ≡ has_xy.fault) × (before ≡ []) × (has_xy.holds b ≡ false)) Second

  to : (before : List ℕ) (b k : ℕ) → Lines before b k → Breaks w [] before b k
  to before b k (here x) = rw x.0 (x_or_y (record { written = x.1; lacking = x.2 }))
  to before b k (later first rest h e (here x)) = absurd x
  to before b k (later first rest h e (later second rest' h' e' x)) =
      let c : get_or channels x.place 0 ≡ x.place = channel-at x.place x.within in
      rw x.broken.1
      (descriptor_bit (record {
        first = first;
        second = second;
        bytes = (h.0, h'.0);
        xy = h.1;
        channel = x.place;
        within = x.within;
        included = ap (includes (first * 256 + second)) (sym c) ∙ x.broken.0;
        descriptors = x.values;
        described = x.valid;
        written = e ∙ ap (λ t. first ∷ t) (e' ∙ ap (λ t. second ∷ t) (x.written ∙ rw x.broken.2 (append-nil _)));
        set = x.broken.3;
      }))

  from : (before : List ℕ) (b k : ℕ) → Breaks w [] before b k → Lines before b k
  from before b k (x_or_y x) = here (refl, x.written, x.lacking)
  from before b k (descriptor_bit x) =
      later x.first _ (x.bytes.0, x.xy) x.written
      (later x.second _ (x.bytes.1, refl) refl
      (record {
        place = x.channel;
        within = x.within;
        values = x.descriptors;
        valid = x.described;
        rest = [];
        written = sym (append-nil _);
        broken = (ap (includes (x.first * 256 + x.second)) (channel-at x.channel x.within) ∙ x.included, refl, refl, x.set);
      }))

  -- the rest, behind `front`, breaks the rule behind other bytes too
  moved : (front : List ℕ) {before : List ℕ} {b k : ℕ} → Breaks w front before b k
      → (rest : List ℕ) × (before ≡ front ++ rest) × ((front' before' : List ℕ) → before' ≡ front' ++ rest → Breaks w front' before' b k)
  moved front (x_or_y x) = (
    [],
    x.written ∙ sym (append-nil front),
    λ front' before' e. x_or_y (record { written = e ∙ append-nil front'; lacking = x.lacking }),
  )
  moved front (descriptor_bit x) = (
    _,
    x.written,
    λ front' before' e. descriptor_bit (record {
      first = x.first;
      second = x.second;
      bytes = x.bytes;
      xy = x.xy;
      channel = x.channel;
      within = x.within;
      included = x.included;
      descriptors = x.descriptors;
      described = x.described;
      written = e;
      set = x.set;
    }),
  )

  pub breaks-behind : (front : List ℕ) {before rest : List ℕ} {b k : ℕ} → before ≡ front ++ rest → Breaks w [] rest b k → Breaks w front before b k
  breaks-behind front {before} e x = let m = moved [] x in m.2 front before (e ∙ ap (λ t. front ++ t) m.1)

  pub breaks-alone : (front : List ℕ) {before : List ℕ} {b k : ℕ} → Breaks w front before b k → (rest : List ℕ) × (before ≡ front ++ rest) × Breaks w [] rest b k
  breaks-alone front x = let m = moved front x in (m.0, m.1, m.2 [] m.0 refl)

-- ---- The whole

pub faults-description : (format : Format) → Faults (description format) (Breaks (width_of format) [])
unfolding description
faults-description format =
    let w = width_of format in
    faults-as
    (faults-bind (writes_one has_xy) (faults-one has_xy) (λ first h.
    faults-bind (writes_one any) (faults-never never-any) (λ second h.
    faults-last (faults-each (writes-described w (first * 256 + second)) (faults-channel w (first * 256 + second)) 0 channels) (λ ds.
    never_done _))))
    (to w)
    (from w)
