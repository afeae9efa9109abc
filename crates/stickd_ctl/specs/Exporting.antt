-- What a table's listing is exported as.
use Rattle.std.specs.Prelude.{ℕ, Bool, true, not, ◌==◌, ◌&&◌, Option, None, Some, List, [], ◌++◌, length, codes, if◌then◌else◌}
use Rattle.std.specs.List.{list_all}
use Rattle.std.specs.Str.{bytes_eq}
use Rattle.stickd_ctl.specs.AddressSets.{can_name, left_out, named, set_text}
use Rattle.stickd_ctl.specs.Csv.{csv}
use Rattle.stickd_ctl.specs.Json.{json}
use Rattle.stickd_ctl.specs.declared.address_keys.Family.TheVariants.{V4, V6}
use Rattle.stickd_ctl.specs.declared.address_sets.Tool.{Tool}
use Rattle.stickd_ctl.specs.declared.address_sets.Tool.TheVariants as tools
use Rattle.stickd_ctl.specs.declared.export_form.ExportForm.{ExportForm}
use Rattle.stickd_ctl.specs.declared.export_form.ExportForm.TheVariants.{Csv, Json, Nft, Ipset}

abbrev pub form_of : List ℕ → Option ExportForm
form_of word =
    if bytes_eq word (codes "csv") then Some Csv
    else (if bytes_eq word (codes "json") then Some Json
    else (if bytes_eq word (codes "nft") then Some Nft
    else (if bytes_eq word (codes "ipset") then Some Ipset
    else None)))

-- a word of a filter ends no command and no line, so that nothing is asked but a listing
abbrev pub can_filter : List ℕ → Bool
can_filter word = list_all (λ byte. not (byte == 59) && not (byte == 10)) word

-- what takes the sets that a form has
abbrev pub tool_of : ExportForm → Option Tool
tool_of Csv = None
tool_of Json = None
tool_of Nft = Some tools.Nft
tool_of Ipset = Some tools.Ipset

-- rules that drop packets by a table's sets, which are the operator's to add
abbrev pub rules_note : List ℕ → List ℕ
rules_note table =
    codes "# These sets drop no packet. Rules that do, added once:\n#   add chain inet stickd input { type filter hook input priority -10; }\n"
    ++ named (codes "#   add rule inet stickd input ip saddr @") V4 table (codes " drop\n")
    ++ named (codes "#   add rule inet stickd input ip6 saddr @") V6 table (codes " drop\n")

-- what stands before the sets
abbrev pub head_text : Tool → List ℕ → List ℕ
head_text tools.Nft table = rules_note table ++ codes "add table inet stickd\n"
head_text tools.Ipset table = []

-- a set of IPv4 addresses, and one of IPv6 addresses
abbrev pub sets_text : Tool → List ℕ → List ℕ → List ℕ
sets_text tool table listing = head_text tool table ++ set_text tool V4 table listing ++ set_text tool V6 table listing

abbrev pub export_text : ExportForm → List ℕ → List ℕ → List ℕ
export_text Csv table listing = csv listing
export_text Json table listing = json listing
export_text Nft table listing = sets_text tools.Nft table listing
export_text Ipset table listing = sets_text tools.Ipset table listing

-- whether a table can be exported so: the names of its sets aren't too long
abbrev pub can_export : ExportForm → List ℕ → Bool
can_export Csv table = true
can_export Json table = true
can_export Nft table = can_name tools.Nft table
can_export Ipset table = can_name tools.Ipset table

-- how many entries a form leaves out: those whose keys are no addresses, of sets
abbrev pub count_left_out : ExportForm → List ℕ → ℕ
count_left_out Csv listing = 0
count_left_out Json listing = 0
count_left_out Nft listing = length (left_out listing)
count_left_out Ipset listing = length (left_out listing)
