-- What show stat and show info ask for, by the words behind them (HAProxy Management Guide 2.6, 9.3).
use Rattle.std.specs.Prelude.{ℕ, ◌/◌, ◌%◌, ◌==◌, Bool, true, false, not, ◌&&◌, ◌||◌, Option, None, Some, List, [], ◌∷◌, codes, if◌then◌else◌}
use Rattle.std.specs.Option.{option_and_then, option_map_or}
use Rattle.std.specs.Str.{bytes_eq}
use Rattle.base_lines.specs.Number.{number_of}
use Rattle.tcp_stats.specs.CommandForms.{Command, ShowInfo, ShowStat, Unknown, Query}
use Rattle.tcp_stats.specs.declared.typed.Format.{Format}
use Rattle.tcp_stats.specs.declared.typed.Format.TheVariants.{Plain, Typed, Json}
use Rattle.tcp_stats.specs.declared.stat_query.Bound.{Bound}
use Rattle.tcp_stats.specs.declared.stat_query.Bound.TheVariants.{Any, Only}
use Rattle.tcp_stats.specs.declared.stat_query.StatQuery.{StatQuery}
use Rattle.tcp_stats.specs.declared.stat_row.StatRow.{StatRow}
use Rattle.tcp_stats.specs.declared.stat_row.StatRow.TheVariants.{Frontend, Server, Backend}

-- a query of the code, without where its letters lie in memory
abbrev pub seen_query : StatQuery → Query
seen_query query = record { proxy = query.proxy.now; kinds = query.kinds; server = query.server; format = query.format }

-- ---- the words

-- every number, or one
abbrev pub bound_if : Option ℕ → Option Bound
bound_if None = None
bound_if (Some number) = Some (Only number)

abbrev pub bound_of : List ℕ → Option Bound
bound_of word = if bytes_eq word (codes "-1") then Some Any else bound_if (number_of word)

-- the last of typed and json counts
abbrev pub format_after : Format → List ℕ → Option Format
format_after format word = if bytes_eq word (codes "typed") then Some Typed else (if bytes_eq word (codes "json") then Some Json else None)

-- up and no-maint: no server is down or in maintenance
abbrev pub is_about_states : List ℕ → Bool
is_about_states word = bytes_eq word (codes "up") || bytes_eq word (codes "no-maint")

abbrev pub in_format : Query → Option Format → Option Query
in_format query None = None
in_format query (Some format) = Some (record { proxy = query.proxy; kinds = query.kinds; server = query.server; format = format })

abbrev pub query_after : Query → List ℕ → Option Query
query_after query word = if is_about_states word then Some query else in_format query (format_after query.format word)

-- behind further words, all of which have to be known
abbrev pub query_with : Query → List (List ℕ) → Option Query
query_with query [] = Some query
query_with query (word ∷ more) = option_and_then (λ next. query_with next more) (query_after query word)

-- every row, in columns
abbrev pub everything : Query
everything = record { proxy = codes "-1"; kinds = Any; server = Any; format = Plain }

-- IID TYPE SID, and further words
abbrev pub bounded_by : List ℕ → Option Bound → Option Bound → List (List ℕ) → Option Query
bounded_by proxy None server more = None
bounded_by proxy (Some kinds) None more = None
bounded_by proxy (Some kinds) (Some server) more = query_with (record { proxy = proxy; kinds = kinds; server = server; format = Plain }) more

abbrev pub bounded : List ℕ → List (List ℕ) → Option Query
bounded proxy [] = None
bounded proxy (kinds ∷ []) = None
bounded proxy (kinds ∷ server ∷ more) = bounded_by proxy (bound_of kinds) (bound_of server) more

-- a first word that is no further word is that of a proxy
abbrev pub query_from : List ℕ → Option Query → List (List ℕ) → Option Query
query_from first None more = bounded first more
query_from first (Some query) more = query_with query more

abbrev pub query_of : List (List ℕ) → Option Query
query_of [] = Some everything
query_of (first ∷ more) = query_from first (query_after everything first) more

abbrev pub stat_if : Option Query → Command
stat_if None = Unknown
stat_if (Some query) = ShowStat query

abbrev pub stat_of : List (List ℕ) → Command
stat_of words = stat_if (query_of words)

-- ---- show info: the last of typed and json counts

abbrev pub info_with : Format → List (List ℕ) → Command
info_with format [] = ShowInfo format
info_with format (word ∷ more) = option_map_or (λ next. info_with next more) (format_after format word) Unknown

abbrev pub info_of : List (List ℕ) → Command
info_of words = info_with Plain words

-- ---- the rows

abbrev pub admits : Bound → ℕ → Bool
admits Any number = true
admits (Only only) number = only == number

-- whether a sum of powers of two has such a power
abbrev pub has_power : Bound → ℕ → Bool
has_power Any power = true
has_power (Only sum) power = sum / power % 2 == 1

abbrev pub is_number : ℕ → List ℕ → Bool
is_number number word = option_map_or (λ found. found == number) (number_of word) false

-- the one proxy, by its name or by its number, which is 2
abbrev pub names_proxy : Query → List ℕ → Bool
names_proxy query frontend = bytes_eq query.proxy (codes "-1") || bytes_eq query.proxy frontend || is_number 2 query.proxy

-- each number but 0 may be a proxy's
abbrev pub may_name : Query → List ℕ → Bool
may_name query frontend = if names_proxy query frontend then true else option_map_or (λ found. not (found == 0)) (number_of query.proxy) false

abbrev pub is_of_kinds : Query → StatRow → Bool
is_of_kinds query Frontend = has_power query.kinds 1
is_of_kinds query Backend = has_power query.kinds 2
is_of_kinds query Server = has_power query.kinds 4 && admits query.server 1

abbrev pub shows : Query → List ℕ → StatRow → Bool
shows query frontend row = if names_proxy query frontend then is_of_kinds query row else false
