-- A sum up to c: the part of which it gains a multiple may be taken up to c before (capped_times).
use mathlib.Core.Path.{◌≡◌}
use Prim.Native.Nat.{ℕ, zero, suc, min, ◌+◌, ◌*◌}
use native.Mathlib.Nat as N
use native.Mathlib.Omega.{arith}

pub capped_times : (s n part c : ℕ) → min (s + n * min part c) c ≡ min (s + n * part) c
capped_times s zero part c = rw (N.zero-mul (min part c), N.zero-mul part)
capped_times s (suc n) part c = omega (arith, N.suc-mul n (min part c), N.suc-mul n part, capped_times s n part c)
