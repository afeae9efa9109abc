-- What the clients of a socket may do, by its level (HAProxy Configuration Manual 2.6, `level`; Management Guide 2.6, 9.3).
use Rattle.std.specs.Prelude.{ℕ, Bool, true, false, Option, Some, None, List, codes, if◌then◌else◌}
use Rattle.std.specs.Str.{bytes_eq}
use Rattle.table_cli.specs.declared.clear_matching.Deed.{Deed}
use Rattle.table_cli.specs.declared.clear_matching.Deed.TheVariants.{Remove, Show}
use Rattle.table_texts.specs.Form as forms
use Rattle.tcp_stats.specs.CommandForms as commands
use Rattle.tcp_watch.specs.declared.level.Level.{Level}
use Rattle.tcp_watch.specs.declared.level.Level.TheVariants.{User, Operator, Admin}
use Rattle.tcp_watch.specs.declared.level.Permission.{Permission}
use Rattle.tcp_watch.specs.declared.level.Permission.TheVariants.{All, HeaderAlone, Nothing}

abbrev pub level_of : List ℕ → Option Level
level_of word =
    if bytes_eq word (codes "user") then Some User
    else (if bytes_eq word (codes "operator") then Some Operator
    else (if bytes_eq word (codes "admin") then Some Admin
    else None))

-- a user is shown no key: of a table its header, and nothing of one key
abbrev pub shown_to_user : forms.Choice → Permission
shown_to_user forms.Everything = HeaderAlone
shown_to_user (forms.OneKey text) = Nothing
shown_to_user (forms.Compare name op value) = HeaderAlone

abbrev pub shown_to : Level → forms.Choice → Permission
shown_to User choice = shown_to_user choice
shown_to Operator choice = All
shown_to Admin choice = All

-- an administrator alone changes a table
abbrev pub changed_by : Level → Permission
changed_by User = Nothing
changed_by Operator = Nothing
changed_by Admin = All

-- of the entries that several filters mean as much is shown as of those that one does
abbrev pub shown_by_filters : Level → Permission
shown_by_filters User = HeaderAlone
shown_by_filters Operator = All
shown_by_filters Admin = All

abbrev pub permission_of_filters : Level → Deed → Permission
permission_of_filters level Show = shown_by_filters level
permission_of_filters level Remove = changed_by level

abbrev pub request_by : Level → forms.Request → Permission
request_by level (forms.Show choice) = shown_to level choice
request_by level (forms.Clear choice) = changed_by level
request_by level (forms.Set key pairs) = changed_by level

-- of commands on tables: what is none, and the headers of all, are answered to everybody
abbrev pub permission_of : Level → forms.Form → Permission
permission_of level forms.Nothing = All
permission_of level forms.Unknown = All
permission_of level forms.Tables = All
permission_of level (forms.Of name request) = request_by level request

abbrev pub is_admin : Level → Bool
is_admin User = false
is_admin Operator = false
is_admin Admin = true

abbrev pub is_above_user : Level → Bool
is_above_user User = false
is_above_user Operator = true
is_above_user Admin = true

-- of the other commands of the stats socket: keys and errors are no user's, and an administrator alone ends anything, or has
-- the rules read again
abbrev pub may_ask : Level → commands.Command → Bool
may_ask level commands.ShowErrors = is_above_user level
may_ask level (commands.OldestFirst name) = is_above_user level
may_ask level (commands.ShutdownFrontend name) = is_admin level
may_ask level (commands.Stop ms) = is_admin level
may_ask level commands.Reload = is_admin level
may_ask level other = true
