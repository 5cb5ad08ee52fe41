-- `words::which` finds the first name that a word is: the names behind the place that the loop has come to are counted from there, and no name before it is the word.
use Rattle.std.proofs.Common.{◌≡◌, suc, ◌+◌, arith, sym, ◌∙◌}
use Rattle.words.specs.Names.{here, later}
use Rattle.words.proofs.Words.{onward, ended, counted, one_more}
use Rattle.words.proofs.which.Goals as goal

pub loop-at-init : goal.loop-at-init
loop-at-init c =
    record {
      inside = omega arith;
      ahead = λ n from to h. let e : 0 + n ≡ n = omega arith in rw e h;
      others = λ n start end h. absurd (omega arith);
    }

pub returns-then-same : goal.returns-then-same
returns-then-same c =
    record {
      from = c.next-span.result.from;
      to = c.next-span.result.to;
      stands = counted _ _ _ _ _ _ (omega arith) (c.loop-at.invariant.ahead 0 _ _ (here c.next-span.ensures));
      same = sym (c.same.ensures.0 c.if-same.true) ∙ c.part.ensures;
    }

pub loop-at-smaller : goal.loop-at-smaller
loop-at-smaller c = omega (arith, onward _ _ _ _ _ c.next-span.ensures c.loop-at-test.true)

pub loop-at-preserved : goal.loop-at-preserved
loop-at-preserved c =
    record {
      inside = omega (arith, onward _ _ _ _ _ c.next-span.ensures c.loop-at-test.true, c.loop-at.invariant.inside);
      ahead = λ n from to h. counted _ _ _ _ from to (omega arith) (c.loop-at.invariant.ahead (suc n) from to (later c.next-span.ensures h));
      others = one_more _ _ _ _ _ _ c.loop-at.invariant.others (counted _ _ _ _ _ _ (omega arith) (c.loop-at.invariant.ahead 0 _ _ (here c.next-span.ensures))) (λ e. let t = sym c.if-same.false ∙ c.same.ensures.1 (c.part.ensures ∙ sym e) in (cc));
    }

pub returns : goal.returns
returns c =
    record {
      from = c.loop-at.at;
      to = c.loop-at.at;
      stands = counted _ _ _ _ _ _ (omega arith) (c.loop-at.invariant.ahead 0 _ _ (here (ended _ _ _ c.loop-at-test.false)));
      none = omega arith;
      others = c.loop-at.invariant.others;
    }
