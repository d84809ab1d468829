use Rattle.ak_driver.proofs.NamedCommands.{named}
use Rattle.ak_driver.proofs.words.names_command.Goals as goal

pub returns-in-Ok : goal.returns-in-Ok
returns-in-Ok g c = named (g.A.Arguments.arguments c.args.arguments.now) _ c.is_command_name.result c.in-Ok.ensures.fills c.is_command_name.ensures
