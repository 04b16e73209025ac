use Rattle.writing.proofs.+put_pointed.Given as goal

abbrev pub decreases-put_pointed : goal.decreases-put_pointed
decreases-put_pointed l = l.places
