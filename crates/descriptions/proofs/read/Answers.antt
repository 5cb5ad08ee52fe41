-- `descriptions::read` meets its contract. The invariant: the arrays have the descriptors of the channels so far and their flags, and say nothing of those left; the highest of the inclusion bits, and of the signs, is this channel's.
use Rattle.std.specs.Prelude.{Err}
use mathlib.Core.Path.{◌≡◌, refl, sym, ap, ◌∙◌}
use mathlib.Core.Bool.{true}
use Prim.Native.Nat.{◌-◌}
use native.Mathlib.Omega.{arith}
use borrow.Author.Rules.{rules}
use Rattle.formats.specs.Reader.{ok, read_at}
use Rattle.formats.specs.Told.{failed-answered}
use Rattle.channels.specs.BitLaws.{moved_none, moved-first, moved_on, moved_out, signs-none, sign-first}
use Rattle.descriptions.specs.Description.{includes, description}
use Rattle.descriptions.specs.Read.{described_to, channels_from}
use Rattle.descriptions.proofs.Measuring.{descriptor-whole}
use Rattle.descriptions.proofs.Reading.{gone-none, gone-absent, gone-on, gone-failed, gone-described, gone-out, behind-done, behind-failed}
use Rattle.descriptions.proofs.read.Goals as goal
use Rattle.descriptions.proofs.read.Goals.{After-leads, In_ok-inclusion, then-leads+in_ok-next, else-leads+else-bits-eq0}

pub returns-in_err-inclusion : goal.returns-in_err-inclusion
returns-in_err-inclusion c =
    let gone : c.from_residual.result ≡ Err c.in_err-inclusion.field-0.0 = search rules in
    gone ∙ sym (failed-answered described_to _ (behind-failed _ c.in_err-inclusion.was (c.inclusion_at.ensures _)))

-- what the whole answers, behind the inclusion bytes
whole : (l : In_ok-inclusion) → read_at (description l.args.format) l.args.s.now l.args.start
    ≡ read_at (channels_from l.args.format l.in_ok-inclusion.inclusion.bits) l.args.s.now l.in_ok-inclusion.inclusion.end
whole l = behind-done _ l.in_ok-inclusion.was (l.inclusion_at.ensures _)

-- a channel that is included
included : (i : After-leads) → i.leads.result ≡ true → includes i.in_ok-inclusion.inclusion.bits i.loop-channel.channel ≡ true
unfolding includes
included i h = sym (moved-first i.loop-channel.invariant.1 i.loop-channel-test.true) ∙ sym i.leads.ensures ∙ h

pub loop-channel-init : goal.loop-channel-init
loop-channel-init c = (gone-none _ _ _ _, moved_none _ (search rules), signs-none c.signs-signs.ensures)

pub returns-in_err-next : goal.returns-in_err-next
returns-in_err-next c =
    let gone : c.from_residual-in_err-next.result ≡ Err c.in_err-next.field-0.0 = search rules in
    let e = gone-failed _ _ _ _ _ _ _ _ _ c.loop-channel.invariant.0 c.loop-channel-test.true (included (goal.at.returns-in_err-next c).After-leads c.if-leads.true) (sym c.in_err-next.was ∙ c.descriptor_end.ensures _) in
    gone ∙ sym (failed-answered described_to _ (whole (goal.at.returns-in_err-next c).In_ok-inclusion ∙ e))

pub descriptor_at-d-requires : goal.descriptor_at-d-requires
descriptor_at-d-requires c = let x = descriptor-whole _ 0 _ _ (sym c.in_ok-next.was ∙ c.descriptor_end.ensures 0) in (x.there, x.admitted)

pub loop-channel-preserved : goal.loop-channel-preserved
unfolding includes
loop-channel-preserved c =
    let i = (goal.at.loop-channel-preserved c).After-leads in
    let l = c.loop-channel in
    let moved = moved_on l.invariant.1 c.behind_first-bits.ensures in
    let signed = moved_on l.invariant.2 c.behind_first-signs.ensures in
    elim c.if-leads.branch [
      | then-leads+in_ok-next w ↦
          let there = descriptor-whole _ l.channel _ _ (sym w.in_ok-next.was ∙ w.descriptor_end.ensures l.channel) in
          let sign = w.leads-then-leads.ensures ∙ sign-first l.invariant.2 c.loop-channel-test.true in
          let f = w.descriptor_at-d.ensures l.channel sign ∙ ap (ok w.descriptor_at-d.result) (sym there.end) in
          rw (w.descriptors-is, w.included-is, w.stored-is, w.at-is) (
            gone-on _ _ _ _ _ _ _ _ _ l.invariant.0 c.loop-channel-test.true (included i w.if-leads.true) f refl w.is_stored.ensures,
            moved,
            signed,
          )
      | else-leads+else-bits-eq0 w ↦
          rw (w.descriptors-is, w.included-is, w.stored-is, w.at-is)
          (gone-absent _ _ _ _ _ _ _ _ _ l.invariant.0 c.loop-channel-test.true (sym (moved-first l.invariant.1 c.loop-channel-test.true) ∙ sym c.leads.ensures ∙ w.if-leads.false), moved, signed)
    ]

pub returns-after-loop-channel : goal.returns-after-loop-channel
returns-after-loop-channel c =
    gone-described _ _ _ _ _ _ _ _ _ c.loop-channel.invariant.0 c.loop-channel-test.false (whole (goal.at.returns-after-loop-channel c).In_ok-inclusion)

pub returns-then-bits-eq0 : goal.returns-then-bits-eq0
unfolding includes
returns-then-bits-eq0 c =
    let g = gone-out _ _ _ _ (16 - c.loop-channel.channel) _ _ _ _ _ (omega (arith, c.loop-channel-test.true)) (moved_out c.loop-channel.invariant.1 c.if-bits-eq0.true) c.loop-channel.invariant.0 in
    gone-described _ _ _ _ _ _ _ _ _ g (omega arith) (whole (goal.at.returns-then-bits-eq0 c).In_ok-inclusion)
