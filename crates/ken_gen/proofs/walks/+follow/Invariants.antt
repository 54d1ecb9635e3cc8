use Rattle.ken_gen.proofs.walks.+follow.Given as goal

abbrev pub decreases-follow : goal.decreases-follow
decreases-follow l = l.most
