use Rattle.ak_settled.proofs.SettledLaws.{kept_counter, noted_finished}
use Rattle.ak_settled.proofs.laws.notes_finish_confirmed_ones.Goals as goal

pub returns : goal.returns
returns c = record {
  covers = λ version s before above. above;
  counter = kept_counter;
  finished = λ margin version s before who. noted_finished version s before who margin;
}
