-- What the terms of two lists add to D and to H at a place.
use Rattle.std.specs.Prelude.{◌≡◌, List, [], ◌∷◌, ◌++◌, ℕ, ◌+◌, eqb, ℤ, pos, ◌+ℤ◌, if◌then◌else◌}
use Rattle.std.proofs.Common.{sym, ◌∙◌, ap, zero-add, add_assoc}
use Rattle.std.proofs.Math.IntN.{+ℤ_idl, +ℤ_assoc}
use Rattle.fund.specs.Transform.{Term, sum_d, sum_h}

pub sum_d_append : (k : ℕ) (ts us : List Term) → sum_d k (ts ++ us) ≡ sum_d k ts +ℤ sum_d k us
unfolding sum_d
sum_d_append k [] us = sym (+ℤ_idl (sum_d k us))
sum_d_append k (t ∷ ts) us = ap (λ z. here +ℤ z) (sum_d_append k ts us) ∙ sym (+ℤ_assoc here (sum_d k ts) (sum_d k us))
  where
    here : ℤ
    here = if eqb t.place k then t.to_d else pos 0

pub sum_h_append : (k : ℕ) (ts us : List Term) → sum_h k (ts ++ us) ≡ sum_h k ts + sum_h k us
unfolding sum_h
sum_h_append k [] us = sym (zero-add (sum_h k us))
sum_h_append k (t ∷ ts) us = ap (λ z. here + z) (sum_h_append k ts us) ∙ sym (add_assoc here (sum_h k ts) (sum_h k us))
  where
    here : ℕ
    here = if eqb t.place k then t.to_h else 0
