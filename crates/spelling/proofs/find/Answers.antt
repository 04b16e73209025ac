-- `spelling::find`: the bytes before the first b from `from` on are those passed and those before it from i on.
use Rattle.std.proofs.Common.{arith}
use Rattle.spelling.proofs.Texts.{before_here, before_next, before_end}
use Rattle.spelling.proofs.find.Goals as goal

pub returns-then-s-i : goal.returns-then-s-i
returns-then-s-i c = let a = c.args in omega (arith, before_here a.b a.s.now c.loop-i.i c.loop-i-test.true c.if-s-i.true)

pub loop-i-preserved : goal.loop-i-preserved
loop-i-preserved c = let a = c.args in (omega arith, omega (arith, before_next a.b a.s.now c.loop-i.i c.loop-i-test.true c.if-s-i.false))

pub returns : goal.returns
returns c = let a = c.args in omega (arith, before_end a.b a.s.now c.loop-i.i c.loop-i-test.false)
