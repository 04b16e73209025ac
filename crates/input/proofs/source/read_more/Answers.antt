-- A file in memory gives its next bytes.
use Rattle.std.proofs.Common.{rules}
use Rattle.input.proofs.Memory.{extends, inside}
use Rattle.input.proofs.source.read_more.Goals as goal

pub returns-then-source-clause-reads_more : goal.returns-then-source-clause-reads_more
returns-then-source-clause-reads_more g c =
    record {
      extends = extends c.give.ensures (c.requires.stands c.if-source.true).bytes;
      inside = inside c.give.ensures c.requires.size_in_bounds;
      gives = λ _. c.give.ensures;
      closed = λ e. search rules;
    }
