-- The rows of the program's own table, as rows of the table of commands.
use Rattle.ips_words.specs.Commands.{Choice, Command, solve, check, ask, sweep, recheck, show, trial}
use Rattle.ips_words.specs.declared.commands.Choice.{Choice as OwnChoice}
use Rattle.ips_words.specs.declared.commands.Command.{Command as OwnCommand}
use Rattle.ips_words.specs.declared.commands.Command.TheVariants.{Solve, Check, Ask, Sweep, Recheck, Show, Trial}

abbrev pub choice_row : OwnChoice → Choice
choice_row c = record { word = c.word.now; value = c.value; built = c.built }

abbrev pub command_row : OwnCommand → Command
command_row Solve = solve
command_row Check = check
command_row Ask = ask
command_row Sweep = sweep
command_row Recheck = recheck
command_row Show = show
command_row Trial = trial
