-- `costs::costs_describe` meets its contract: the answer of `descriptions`, variant by variant.
use mathlib.Core.Path.{◌≡◌, sym, ap, ◌∙◌}
use Rattle.formats.specs.Reader.{read_at}
use Rattle.descriptions.specs.Description.{description}
use Rattle.descriptions.specs.Read.{described}
use Rattle.costs.specs.Handed.{format_if, handed_description, handed_channel}
use Rattle.costs.proofs.costs_describe.Goals as goal
use Rattle.costs.proofs.costs_describe.Goals.{After-read, Joined-compact, then-compact, else-compact}

-- the format is the one that was asked for
format : (r : Joined-compact) → r.if-compact.format ≡ format_if r.args.compact
unfolding format_if
format r =
    elim r.if-compact.branch [ then-compact w ↦ rw (w.format-is, w.if-compact.true) | else-compact w ↦ rw (w.format-is, w.if-compact.false) ]

-- and so is what was read
handed : (r : After-read) → let a = r.args in
    handed_description r.if-compact.format a.channel r.read.result ≡ handed_description (format_if a.compact) a.channel (described (read_at (description (format_if a.compact)) a.bytes.now 0))
handed r =
    ap (handed_description r.if-compact.format r.args.channel) r.read.ensures
    ∙ ap (λ f. handed_description f r.args.channel (described (read_at (description f) r.args.bytes.now 0))) (format (goal.at.After-read r).Joined-compact)

pub returns-in-Ok : goal.returns-in-Ok
unfolding handed_description handed_channel
returns-in-Ok c =
    let r = (goal.at.returns-in-Ok c).After-read in
    rw c.said_of.ensures (ap (handed_description r.if-compact.format r.args.channel) (sym c.in-Ok.is) ∙ handed r)

pub returns-in-Err : goal.returns-in-Err
unfolding handed_description handed_channel
returns-in-Err c =
    let r = (goal.at.returns-in-Err c).After-read in
    rw (c.number.ensures, c.place_of.ensures, c.of-refusal.ensures, c.said_of-in-Err.ensures, c.nothing.ensures)
    (ap (handed_description r.if-compact.format r.args.channel) (sym c.in-Err.is) ∙ handed r)
