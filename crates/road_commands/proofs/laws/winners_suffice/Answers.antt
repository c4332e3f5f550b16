-- The winners suffice for every command: for its answer, and for the laboratory after it.
use Rattle.road_commands.proofs.WinnersSuffice.{after-of_winners, answer-of_winners}
use Rattle.road_commands.proofs.laws.winners_suffice.Goals as goal

pub returns : goal.returns
returns c = record {
  answer = λ laboratory command. answer-of_winners laboratory command;
  after = λ laboratory command. after-of_winners laboratory command;
}
