-- `moves::move_of`: the move is that of the definition, since each of its numbers is (same_move).
use mathlib.Core.Path.{◌≡◌}
use Prim.Native.Nat.{ℕ}
use native.Mathlib.Omega.{arith}
use lib.IntN.{ℤ}
use Rattle.std.proofs.lemmas.Int.{ints}
use Rattle.moves.specs.declared.Move.{Move}
use Rattle.moves.specs.Move.{move_of}
use Rattle.moves.proofs.move_of.Goals as goal

same_move : {premium p least l most m gross g gross_least gl gross_most gm : ℤ} {n : ℕ}
    → premium ≡ p → least ≡ l → most ≡ m → gross ≡ g → gross_least ≡ gl → gross_most ≡ gm
    → ◌≡◌ {A = Move} (record { premium = premium; arithmetic = n; least = least; most = most; gross = gross; gross_least = gross_least; gross_most = gross_most })
    (record { premium = p; arithmetic = n; least = l; most = m; gross = g; gross_least = gl; gross_most = gm })
same_move {n = n} a b c d e f = λ i. record { premium = a i; arithmetic = n; least = b i; most = c i; gross = d i; gross_least = e i; gross_most = f i }

pub returns : goal.returns
unfolding move_of
returns c =
    same_move (omega (arith, ints)) (omega (arith, ints)) (omega (arith, ints)) (omega (arith, ints)) (omega (arith, ints)) (omega (arith, ints))
