use Rattle.std.proofs.Common.{arith}
use Rattle.tg_names.proofs.Digits.{start-positive, start-last, digit-more, digit-last}
use Rattle.tg_names.proofs.names.write_decimal.Goals as goal

pub overflow_sub-start : goal.overflow_sub-start
overflow_sub-start c = start-positive c.args.number c.loop-left.left c.loop-left.start c.loop-left.text (omega arith) (omega arith) (omega arith) c.loop-left.invariant.in_range c.loop-left.invariant.rest

pub loop-left-preserved : goal.loop-left-preserved
loop-left-preserved c =
    let i = c.loop-left.invariant in
    record {
      in_range = omega arith;
      rest = digit-more c.args.number c.loop-left.left c.loop-left.start c.loop-left.text (omega arith) (omega arith)
          (start-positive c.args.number c.loop-left.left c.loop-left.start c.loop-left.text (omega arith) (omega arith) (omega arith) i.in_range i.rest) (omega arith) i.rest;
    }

pub overflow_sub-start-2 : goal.overflow_sub-start-2
overflow_sub-start-2 c = start-positive c.args.number c.loop-left.left c.loop-left.start c.loop-left.text (omega arith) (omega arith) (omega arith) c.loop-left.invariant.in_range c.loop-left.invariant.rest

pub returns-clause-start : goal.returns-clause-start
returns-clause-start c = start-last c.args.number c.loop-left.left c.loop-left.start c.loop-left.text (omega arith) (omega arith) (omega arith) c.loop-left.invariant.in_range c.loop-left.invariant.rest

pub returns-clause-written : goal.returns-clause-written
returns-clause-written c =
    let i = c.loop-left.invariant in
    digit-last c.args.number c.loop-left.left c.loop-left.start c.loop-left.text (omega arith)
    (start-positive c.args.number c.loop-left.left c.loop-left.start c.loop-left.text (omega arith) (omega arith) (omega arith) i.in_range i.rest) (omega arith) i.rest
