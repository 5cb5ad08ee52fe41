-- `descriptions::measure` meets its contract. The invariant: some descriptors were read of the channels so far, and the flags are theirs.
use Rattle.std.specs.Prelude.{Err}
use mathlib.Core.Path.{◌≡◌, sym, ap, ◌∙◌}
use mathlib.Core.Bool.{true}
use Prim.Native.Nat.{◌-◌}
use native.Mathlib.Omega.{arith}
use borrow.Author.Rules.{rules}
use lib.ListN.{replicate, set}
use Rattle.formats.specs.Reader.{read_at}
use Rattle.formats.specs.Told.{told-done, failed-answered}
use Rattle.channels.specs.BitLaws.{moved_none, moved-first, moved_on, moved_out}
use Rattle.channels.specs.Descriptors.{absent}
use Rattle.descriptions.specs.Description.{includes, description}
use Rattle.descriptions.specs.Read.{channels_from, descriptor_size}
use Rattle.descriptions.proofs.Measuring.{descriptor-whole, descriptor-flags}
use Rattle.descriptions.proofs.Reading.{gone-none, gone-absent, gone-on, gone-failed, gone-measured, gone-out, behind-done, behind-failed}
use Rattle.descriptions.proofs.measure.Goals as goal
use Rattle.descriptions.proofs.measure.Goals.{After-leads, In_ok-inclusion, then-leads+in_ok-behind, else-leads+else-bits-eq0}

pub returns-in_err-inclusion : goal.returns-in_err-inclusion
returns-in_err-inclusion c =
    let gone : c.from_residual.result ≡ Err c.in_err-inclusion.field-0.0 = search rules in
    gone ∙ sym (failed-answered _ _ (behind-failed _ c.in_err-inclusion.was (c.inclusion_at.ensures _)))

-- what the whole answers, behind the inclusion bytes
whole : (l : In_ok-inclusion) → read_at (description l.args.format) l.args.s.now l.args.start
    ≡ read_at (channels_from l.args.format l.in_ok-inclusion.inclusion.bits) l.args.s.now l.in_ok-inclusion.inclusion.end
whole l = behind-done _ l.in_ok-inclusion.was (l.inclusion_at.ensures _)

-- a channel that is included
included : (i : After-leads) → i.leads.result ≡ true → includes i.in_ok-inclusion.inclusion.bits i.loop-channel.channel ≡ true
unfolding includes
included i h = sym (moved-first i.loop-channel.invariant.2 i.loop-channel-test.true) ∙ sym i.leads.ensures ∙ h

pub loop-channel-init : goal.loop-channel-init
loop-channel-init c = (replicate 16 absent, gone-none _ _ _ _, moved_none _ (search rules))

pub returns-in_err-behind : goal.returns-in_err-behind
returns-in_err-behind c =
    let gone : c.from_residual-in_err-behind.result ≡ Err c.in_err-behind.field-0.0 = search rules in
    let e = gone-failed _ _ _ _ _ _ _ _ _ c.loop-channel.invariant.1 c.loop-channel-test.true (included (goal.at.returns-in_err-behind c).After-leads c.if-leads.true) (sym c.in_err-behind.was ∙ c.descriptor_end.ensures _) in
    gone ∙ sym (failed-answered _ _ (whole (goal.at.returns-in_err-behind c).In_ok-inclusion ∙ e))

pub bounds-s-at : goal.bounds-s-at
unfolding descriptor_size
bounds-s-at c = omega (arith, (descriptor-whole _ 0 _ _ (sym c.in_ok-behind.was ∙ c.descriptor_end.ensures 0)).there)

pub loop-channel-preserved : goal.loop-channel-preserved
unfolding includes
loop-channel-preserved c =
    let i = (goal.at.loop-channel-preserved c).After-leads in
    let moved = moved_on c.loop-channel.invariant.2 c.behind_first-bits.ensures in
    let l = c.loop-channel in
    elim c.if-leads.branch [
      | then-leads+in_ok-behind w ↦
          let x = told-done _ (sym w.in_ok-behind.was ∙ w.descriptor_end.ensures l.channel) in
          let f = descriptor-flags _ l.channel _ _ x.1 in
          rw (w.included-is, w.stored-is, w.at-is) (
            set l.invariant.0 l.channel x.0,
            gone-on _ _ _ _ _ _ _ _ _ l.invariant.1 c.loop-channel-test.true (included i w.if-leads.true) x.1 (sym f.0) (sym f.1),
            moved,
          )
      | else-leads+else-bits-eq0 w ↦
          rw (w.included-is, w.stored-is, w.at-is)
          (l.invariant.0, gone-absent _ _ _ _ _ _ _ _ _ l.invariant.1 c.loop-channel-test.true (sym (moved-first l.invariant.2 c.loop-channel-test.true) ∙ sym c.leads.ensures ∙ w.if-leads.false), moved)
    ]

pub returns-after-loop-channel : goal.returns-after-loop-channel
returns-after-loop-channel c =
    gone-measured _ _ _ _ _ _ _ _ _ c.loop-channel.invariant.1 c.loop-channel-test.false (whole (goal.at.returns-after-loop-channel c).In_ok-inclusion)

pub returns-then-bits-eq0 : goal.returns-then-bits-eq0
unfolding includes
returns-then-bits-eq0 c =
    let g = gone-out _ _ _ _ (16 - c.loop-channel.channel) _ _ _ _ _ (omega (arith, c.loop-channel-test.true)) (moved_out c.loop-channel.invariant.2 c.if-bits-eq0.true) c.loop-channel.invariant.1 in
    gone-measured _ _ _ _ _ _ _ _ _ g (omega arith) (whole (goal.at.returns-then-bits-eq0 c).In_ok-inclusion)
