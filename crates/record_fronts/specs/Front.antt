-- A record in two parts: its front, all that stands before the points, and its body, the points and the extended data.
use Rattle.std.specs.Prelude.{◌≡◌, refl, Bool, [], ◌∷◌, ℕ}
use Rattle.std.proofs.Common.{sym, ◌∙◌}
use Rattle.formats.specs.Reader.{Reader, done, byte, bind, one, literal, times, ◌>>=◌, ◌>>◌}
use Rattle.formats.specs.Binary.{bit}
use Rattle.formats.specs.Number.{number}
use Rattle.channels.specs.declared.Description.{Description}
use Rattle.descriptions.specs.Description.{description}
use Rattle.points.specs.Points.{point}
use Rattle.channels.specs.Descriptors.{stored}
use Rattle.channels.specs.declared.Format.TheVariants.{Full}
use Rattle.records.specs.Record.{Record, opening, extension, full_record}
use Rattle.identifications.specs.Identification.{identification}

-- what stands before the points: the channels, whether extended data are announced, and the number of points
pub record Heading : Type 0 where
  pub description : Description
  pub announced : Bool
  pub count : ℕ

-- what the opening of a body says: whether extended data are announced, and the number of points
pub record Opening : Type 0 where
  pub announced : Bool
  pub count : ℕ

-- the header's reserved byte, the opening byte and the count
unfoldable pub opened : Reader Opening
opened = do
  literal 6 (0x00 ∷ []) tt
  b ← one opening
  count ← number 3
  done (record { announced = bit 8 b; count = count })

abbrev pub headed : Description → Opening → Heading
headed d o = record { description = d; announced = o.announced; count = o.count }

unfoldable pub channelled : Reader Heading
channelled = do
  d ← description Full
  o ← opened
  done (headed d o)

unfoldable pub front : Reader Heading
front = do
  identification
  channelled

-- the points and the extended data, as the front has them
unfoldable pub body : Heading → Reader Record
body f = do
  points ← times f.count (point 2 (stored f.description))
  extended ← extension f.announced
  done (record { description = f.description; points = points; extended = extended })

-- ---- They are the whole

bind_assoc : {A B C : Type 0} (r : Reader A) (k : A → Reader B) (l : B → Reader C) → bind (bind r k) l ≡ bind r (λ v. bind (k v) l)
unfolding bind
bind_assoc (done v) k l = refl
bind_assoc (byte c f) k l = λ i. byte c (λ b. bind_assoc (f b) k l i)

channelled-body : bind channelled body ≡ bind (description Full) (λ d. bind opened (λ o. body (headed d o)))
unfolding channelled bind
channelled-body = bind_assoc (description Full) _ body ∙ (λ i. bind (description Full) (λ d. bind_assoc opened (λ o. done (headed d o)) body i))

opened-body : (d : Description) → bind opened (λ o. body (headed d o))
    ≡ bind (literal 6 (0x00 ∷ []) tt) (λ u. bind (one opening) (λ b. bind (number 3) (λ count. body (record { description = d; announced = bit 8 b; count = count }))))
unfolding opened bind literal one
opened-body d =
    λ i. bind (literal 6 (0x00 ∷ []) tt) (λ u. bind (one opening) (λ b. bind_assoc (number 3) (λ count. done (record { announced = bit 8 b; count = count })) (λ o. body (headed d o)) i))

front-body : bind front body ≡ bind identification (λ u. bind (description Full) (λ d. bind opened (λ o. body (headed d o))))
unfolding front
front-body = bind_assoc identification _ body ∙ (λ i. bind identification (λ u. channelled-body i))

pub in_two : full_record ≡ bind front body
unfolding full_record body identification literal bind
in_two = sym (front-body ∙ (λ i. bind identification (λ u. bind (description Full) (λ d. opened-body d i))))
