use Rattle.ls_fringe.proofs.Vocabulary.{fringes, learning-parts, length, state_of-own}
use Rattle.ls_fringe.proofs.Chosen.{inner-within}
use Rattle.ls_interior.proofs.Chosen.{outer-within}
use Rattle.ls_fringe.proofs.Lines.{asks}
use Rattle.ls_fringe.proofs.laws.fringes_are_read_back.Goals as goal

pub returns : goal.returns
returns c = record {
  line = asks;
  member = λ names f k domain small learning among.
      let n = length names in
      let p = learning-parts n f small learning in
      (asks names (fringes n f k) domain (λ i h. small k among i (inner-within f k i h)) (outer-within n f k), state_of-own n f p.0 p.1 k among);
}
