use Rattle.ak_options.proofs.OneCommand.{one_command}
use Rattle.ak_options.proofs.laws.words_ask_for_one_command.Goals as goal

pub returns : goal.returns
returns c = one_command
