-- What a read gives, where it fails and where it gives bytes.
use Rattle.std.proofs.Common.{rules, arith, ◌≡◌, ◌+◌, ◌-◌, refl, sym, ap, ◌∙◌, length, take, drop, take-add}
use Rattle.std.proofs.Math.Nat.{add-sub_cancel_left}
use Rattle.std.proofs.lemmas.Slice.{take-put_mid, overwrites}
use Rattle.input.specs.Reads.{piece_at}
use Rattle.input.specs.Input.{counted, none}
use Rattle.input.proofs.source.give.Goals as goal

pub returns-then-most-eq0 : goal.returns-then-most-eq0
returns-then-most-eq0 c = none record { long = refl; fails = search rules; bytes = c.requires.stands.bytes }

pub returns : goal.returns
returns c =
    let file = c.args.file.now in
    let buffer = c.args.buffer.now in
    let size = c.args.size in
    let n = c.min-n.result in
    let at = c.requires.stands.at in
    let most : c.piece-most.result ≡ piece_at c.args.pieces.now size = c.piece-most.ensures.0 ∙ ap (piece_at c.args.pieces.now) at in
    let copied = c.copy_from_slice.new.self in
    let long : length copied ≡ n = search (rules, overwrites) in
    let read : copied ≡ take n (drop size file) = rw (at, add-sub_cancel_left size n) at c.copy_from_slice.ensures.after in
    counted
    record {
      long = search (rules, overwrites, long);
      some = omega (arith, most, c.if-most-eq0.false);
      count = omega (arith, most, at, c.min.ensures, c.min-n.ensures);
      stands =
          record {
            at = search rules;
            bytes =
                take-put_mid size (size + n - size) buffer copied (size + n) (ap (◌+◌ size) (sym long)) c.requires.size_in_bounds ∙
                rw (read, c.requires.stands.bytes) (sym (take-add size n file));
          };
    }
