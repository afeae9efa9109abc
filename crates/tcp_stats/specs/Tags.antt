-- What a value is, beside itself: where it comes from, what it says, and of how much it holds (HAProxy Management Guide 2.6, 9.2).
use Rattle.std.specs.Prelude.{ℕ, List, [], ◌∷◌, ◌++◌, codes}
use Rattle.tcp_stats.specs.declared.tags.Tags.{Tags}
use Rattle.tcp_stats.specs.declared.tags.Origin.{Origin}
use Rattle.tcp_stats.specs.declared.tags.Origin.TheVariants as origins
use Rattle.tcp_stats.specs.declared.tags.Nature.{Nature}
use Rattle.tcp_stats.specs.declared.tags.Nature.TheVariants as natures
use Rattle.tcp_stats.specs.declared.tags.Scope.{Scope}
use Rattle.tcp_stats.specs.declared.tags.Scope.TheVariants as scopes

abbrev pub tags : Origin → Nature → Scope → Tags
tags origin nature scope = record { origin = origin; nature = nature; scope = scope }

-- a letter and a word
abbrev pub Names : Type 0
Names = ℕ × List ℕ

abbrev pub origin_names : Origin → Names
origin_names origins.Metric = (77, codes "Metric")
origin_names origins.Status = (83, codes "Status")
origin_names origins.Key = (75, codes "Key")
origin_names origins.Config = (67, codes "Config")
origin_names origins.Product = (80, codes "Product")

abbrev pub nature_names : Nature → Names
nature_names natures.Gauge = (71, codes "Gauge")
nature_names natures.Limit = (76, codes "Limit")
nature_names natures.Max = (77, codes "Max")
nature_names natures.Counter = (67, codes "Counter")
nature_names natures.Rate = (82, codes "Rate")
nature_names natures.Average = (97, codes "Avg")
nature_names natures.Duration = (68, codes "Duration")
nature_names natures.Name = (78, codes "Name")
nature_names natures.Output = (79, codes "Output")

abbrev pub scope_names : Scope → Names
scope_names scopes.Service = (83, codes "Service")
scope_names scopes.Process = (80, codes "Process")

-- the three letters
abbrev pub letters : Tags → List ℕ
letters own = (origin_names own.origin).0 ∷ (nature_names own.nature).0 ∷ (scope_names own.scope).0 ∷ []

-- a name and a text, as a member of an object of JSON
unfoldable pub json_member : List ℕ → List ℕ → List ℕ
json_member name word = codes "\"" ++ name ++ codes "\":\"" ++ word ++ codes "\""

-- the last two of three words
unfoldable pub json_last_tags : Tags → List ℕ
json_last_tags own = json_member (codes "nature") (nature_names own.nature).1 ++ codes "," ++ json_member (codes "scope") (scope_names own.scope).1

-- the three words, as an object of JSON
unfoldable pub json_tags : Tags → List ℕ
json_tags own = codes "{" ++ json_member (codes "origin") (origin_names own.origin).1 ++ codes "," ++ json_last_tags own ++ codes "}"
