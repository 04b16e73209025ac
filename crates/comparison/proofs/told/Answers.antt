-- Nothing is told where one of the four is missing, or the figures are outside their ranges; else the move and the differences.
use Rattle.std.proofs.Common.{sym, ◌∙◌, ap}
use Rattle.comparison.specs.Steps.{told_by, with_differences}
use Rattle.comparison.proofs.ComparedFiles.{no_before, no_after, no_old, no_new}
use Rattle.comparison.proofs.told.Goals as goal

pub returns-in_err-before : goal.returns-in_err-before
returns-in_err-before c = c.from_residual.ensures ∙ no_before _ _ _ _ (sym c.ok.ensures.value ∙ c.in_err-before.was)

pub returns-in_err-after : goal.returns-in_err-after
returns-in_err-after c = c.from_residual-in_err-after.ensures ∙ no_after _ _ _ _ (sym c.ok-2.ensures.value ∙ c.in_err-after.was)

pub returns-in_err-old : goal.returns-in_err-old
returns-in_err-old c = c.from_residual-in_err-old.ensures ∙ no_old _ _ _ _ (sym c.ok-3.ensures.value ∙ c.in_err-old.was)

pub returns-in_err-new : goal.returns-in_err-new
returns-in_err-new c = c.from_residual-in_err-new.ensures ∙ no_new _ _ _ _ (sym c.ok-4.ensures.value ∙ c.in_err-new.was)

pub returns-in_err-moved : goal.returns-in_err-moved
unfolding told_by
returns-in_err-moved c =
    rw (sym c.ok.ensures.value ∙ c.in_ok-before.was, sym c.ok-2.ensures.value ∙ c.in_ok-after.was, sym c.ok-3.ensures.value ∙ c.in_ok-old.was, sym c.ok-4.ensures.value ∙ c.in_ok-new.was)
    (c.from_residual-in_err-moved.ensures ∙ sym (ap (with_differences c.in_ok-old.old c.in_ok-new.new) (sym c.move_between.ensures ∙ c.in_err-moved.was)))

pub returns : goal.returns
unfolding told_by
returns c =
    rw (sym c.ok.ensures.value ∙ c.in_ok-before.was, sym c.ok-2.ensures.value ∙ c.in_ok-after.was, sym c.ok-3.ensures.value ∙ c.in_ok-old.was, sym c.ok-4.ensures.value ∙ c.in_ok-new.was, c.differing-differences.ensures)
    (sym (ap (with_differences c.in_ok-old.old c.in_ok-new.new) (sym c.move_between.ensures ∙ c.in_ok-moved.was)))
