use Rattle.words.proofs.codec.+remainder_of_first.Given as goal

abbrev pub decreases-remainder_of_first : goal.decreases-remainder_of_first
decreases-remainder_of_first l = l.n
