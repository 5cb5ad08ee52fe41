-- What a loop over the channels has of a description when it has gone through some of them, and what the whole answers from there:
-- one account for the loop that reads descriptors and for the one that only measures them.
use Rattle.std.specs.Prelude.{Result, Ok, Err}
use mathlib.Core.Path.{◌≡◌, refl, sym, ap, ◌∙◌}
use mathlib.Core.Bool.{Bool, true, false}
use mathlib.Core.List.{List, [], ◌∷◌, ◌++◌}
use mathlib.Core.List as list
use Prim.Native.Nat.{ℕ, zero, suc, ◌+◌, ◌≤◌, ◌<◌}
use native.Mathlib.Numerals.{add-one}
use native.Mathlib.Omega.{arith}
use lib.ListN.{length, get_or, set, take, drop, replicate, length-set}
use lib.Seq.{get_or-set_other, take-suc, take-suc-set}
use Rattle.formats.specs.Reader.{Reader, Answer, ok, mapped, read_at, each}
use Rattle.formats.specs.Compose.{at_done, at_map}
use Rattle.formats.specs.Gathered.{Gathered, gathered_none, gathered-more, gathered-failed, gathered-all}
use Rattle.formats.specs.Told.{told, failed, answered, mapped-failed, told-failed}
use Rattle.formats.specs.declared.Failure.{Failure}
use Rattle.channels.specs.Channel.{channels, width_of, nth-channel}
use Rattle.channels.specs.declared.Descriptor.{Descriptor}
use Rattle.channels.specs.declared.Description.{Description}
use Rattle.channels.specs.declared.Format.{Format}
use Rattle.channels.specs.Descriptors.{absent, is_stored}
use Rattle.descriptions.specs.Description.{descriptor, includes, channel_of}
use Rattle.descriptions.specs.Read.{described, measured, behind, channels_from}
use Rattle.descriptions.specs.declared.Inclusion.{Inclusion}

-- ---- Lists

-- an image of a list in which one thing is set
map-set : {A B : Type 0} (g : A → B) (l : List A) (i : ℕ) (v : A) → set (list.map g l) i (g v) ≡ list.map g (set l i v)
map-set g [] i v = refl
map-set g (x ∷ l) zero v = refl
map-set g (x ∷ l) (suc i) v = ap (λ m. g x ∷ m) (map-set g l i v)

-- what stands in the array already need not be set
take-kept : {A : Type 0} (a : List A) (i : ℕ) (d v : A) → i < length a → get_or a i d ≡ v → take (i + 1) (set a i v) ≡ take (i + 1) a
take-kept a i d v h e = rw (add-one i) (take-suc-set a i v h ∙ rw (← e) (sym (take-suc a i d h)))

gathered-kept : {I A : Type 0} (l : List I) (f : I → Reader A) (s : List ℕ) (start : ℕ) (a : List A) (i at : ℕ) (d v : A) → i < length a → get_or a i d ≡ v
    → Gathered l f s start (set a i v) (i + 1) at → Gathered l f s start a (i + 1) at
gathered-kept l f s start a i at d v h e g = g ∙ ap (λ p. mapped (λ vs. p ++ vs) (read_at (each (drop (i + 1) l) f) s at)) (take-kept a i d v h e)

-- no channel from one on has been set
abbrev Unset : List Descriptor → ℕ → Type 0
Unset ds channel = (i : ℕ) → channel ≤ i → get_or ds i absent ≡ absent

unset-all : (n channel : ℕ) → Unset (replicate n absent) channel
unset-all n channel i h = go n i
  where
    go : (n i : ℕ) → get_or (replicate n absent) i absent ≡ absent
    go zero i = refl
    go (suc n) zero = refl
    go (suc n) (suc i) = go n i

-- ---- The channels that were gone through

module _ (format : Format) (inclusion : ℕ) (s : List ℕ) (start : ℕ) where
  abbrev w : ℕ
  w = width_of format

  -- these descriptors were read of the channels before this one and these flags are theirs, nothing is said of the channels left, and the next descriptor stands here
  pub record Gone (ds : List Descriptor) (included stored : List Bool) (channel at : ℕ) : Type 0 where
    pub sixteen : length ds ≡ 16
    pub unset : Unset ds channel
    pub gathered : Gathered channels (channel_of w inclusion) s start ds channel at
    pub included-same : included ≡ list.map (λ c. c.included) ds
    pub stored_same : stored ≡ list.map is_stored ds

  pub gone-none : Gone (replicate 16 absent) (replicate 16 false) (replicate 16 false) 0 start
  gone-none = record {
    sixteen = refl;
    unset = unset-all 16 0;
    gathered = gathered_none channels (channel_of w inclusion) s start (replicate 16 absent);
    included-same = refl;
    stored_same = refl;
  }

  module _ (ds : List Descriptor) (included stored : List Bool) (channel at : ℕ) (g : Gone ds included stored channel at) where
    module _ (h : channel < 16) where
      -- a channel has its descriptor where it is included, else no bytes
      with-descriptor : includes inclusion channel ≡ true → read_at (channel_of w inclusion (get_or channels channel 0)) s at ≡ read_at (descriptor w channel) s at
      unfolding channel_of
      with-descriptor e = rw (nth-channel channel h, e)

      left_out : includes inclusion channel ≡ false → read_at (channel_of w inclusion (get_or channels channel 0)) s at ≡ ok absent at
      unfolding channel_of
      left_out e = rw (nth-channel channel h, e) (at_done absent s at)

      pub gone-absent : includes inclusion channel ≡ false → Gone ds included stored (channel + 1) at
      gone-absent e = record {
        sixteen = g.sixteen;
        unset = λ i q. g.unset i (omega arith);
        gathered =
            gathered-kept channels _ s start ds channel at absent absent (omega (arith, g.sixteen)) (g.unset channel (omega arith))
            (gathered-more channels _ s start 0 ds channel at h g.gathered (omega (arith, g.sixteen)) (left_out e));
        included-same = g.included-same;
        stored_same = g.stored_same;
      }

      pub gone-on : includes inclusion channel ≡ true → {d : Descriptor} {n : ℕ} {a b : Bool} → read_at (descriptor w channel) s at ≡ ok d n → a ≡ d.included → b ≡ is_stored d
          → Gone (set ds channel d) (set included channel a) (set stored channel b) (channel + 1) n
      gone-on e {d} f p q = record {
        sixteen = length-set ds channel d ∙ g.sixteen;
        unset = λ i q. get_or-set_other ds channel i d absent (λ z. omega arith) ∙ g.unset i (omega arith);
        gathered = gathered-more channels _ s start 0 ds channel at h g.gathered (omega (arith, g.sixteen)) (with-descriptor e ∙ f);
        included-same = rw (p, g.included-same) (map-set (λ c. c.included) ds channel d);
        stored_same = rw (q, g.stored_same) (map-set is_stored ds channel d);
      }

      -- where a descriptor fails, the whole does
      pub gone-failed : includes inclusion channel ≡ true → {f : Failure} → Err f ≡ told (read_at (descriptor w channel) s at)
          → read_at (channels_from format inclusion) s start ≡ failed f
      unfolding channels_from
      gone-failed e {f} z =
          at_map _ _ s start
          ∙ ap (mapped _) (gathered-failed channels _ s start 0 ds channel at h g.gathered f (with-descriptor e ∙ told-failed _ z))
          ∙ mapped-failed _ f

    module _ (h : 16 ≤ channel) where
      all-gone : read_at (channels_from format inclusion) s start ≡ ok (record { channels = ds; mark = format }) at
      unfolding channels_from mapped
      all-gone = at_map _ _ s start ∙ ap (mapped _) (gathered-all channels _ s start ds channel at h (omega (arith, g.sixteen)) g.gathered)

      module _ {x : Answer Description} (e : x ≡ read_at (channels_from format inclusion) s start) where
        pub gone-described : Ok (record { end = at; included = included; stored = stored; description = record { channels = ds; mark = format } }) ≡ described x
        unfolding answered
        gone-described = rw (g.included-same, g.stored_same) (sym (ap described (e ∙ all-gone)))

        pub gone-measured : Ok (record { end = at; included = included; stored = stored }) ≡ measured x
        unfolding answered
        gone-measured = rw (g.included-same, g.stored_same) (sym (ap measured (e ∙ all-gone)))

  -- channels that aren't included leave all as it is
  pub gone-out : (left : ℕ) (ds : List Descriptor) (included stored : List Bool) (channel at : ℕ) → channel + left ≡ 16
      → ((c : ℕ) → channel ≤ c → c < 16 → includes inclusion c ≡ false) → Gone ds included stored channel at → Gone ds included stored 16 at
  gone-out zero ds included stored channel at e none g = let z : channel ≡ 16 = omega arith in rw z at g
  gone-out (suc left) ds included stored channel at e none g =
      gone-out left ds included stored (channel + 1) at (omega arith) (λ c h q. none c (omega arith) q)
      (gone-absent ds included stored channel at g (omega arith) (none channel (omega arith) (omega arith)))

-- ---- Behind the inclusion bytes

module _ (next : Inclusion → Answer Description) {x : Answer Description} {r : Result Inclusion Failure} where
  pub behind-done : {i : Inclusion} → r ≡ Ok i → x ≡ behind next r → x ≡ next i
  unfolding behind
  behind-done h e = e ∙ ap (behind next) h

  pub behind-failed : {f : Failure} → r ≡ Err f → x ≡ behind next r → x ≡ failed f
  unfolding behind
  behind-failed h e = e ∙ ap (behind next) h
