-- A command of the code, without where its words lie in memory.
use Rattle.base_lines.specs.Words.{is_blank, words}
use Rattle.base_lines.specs.declared.words.Blanks.TheVariants.{SpacesAndTabs}
use Rattle.tcp_stats.specs.CommandForms as spec
use Rattle.tcp_stats.specs.StatQueries.{seen_query}
use Rattle.tcp_stats.specs.declared.command.StatsCommand.{StatsCommand}
use Rattle.tcp_stats.specs.declared.command.StatsCommand.TheVariants.{ShowInfo, ShowStat, ShowErrors, Help, Prompt, Quit, ShutdownFrontend, Stop, Reload, OldestFirst, Table, Empty, Unknown}

abbrev pub seen : StatsCommand → spec.Command
seen (ShowInfo format) = spec.ShowInfo format
seen (ShowStat query) = spec.ShowStat (seen_query query)
seen ShowErrors = spec.ShowErrors
seen (Help text) = spec.Help (words (is_blank SpacesAndTabs) text.now)
seen Prompt = spec.Prompt
seen Quit = spec.Quit
seen (ShutdownFrontend name) = spec.ShutdownFrontend name.now
seen (Stop time) = spec.Stop time
seen Reload = spec.Reload
seen (OldestFirst name) = spec.OldestFirst name.now
seen Table = spec.Table
seen Empty = spec.Empty
seen Unknown = spec.Unknown
