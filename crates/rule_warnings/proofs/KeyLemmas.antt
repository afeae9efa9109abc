-- What can't be a key of a type is none.
use Rattle.std.proofs.Common.{◌≡◌, None, refl, sym}
use Rattle.std.proofs.lemmas.Bool.{false≢true}
use Rattle.stick_key.specs.Convert.{converted}
use Rattle.stick_key.specs.declared.kind.KeyType.TheVariants as kinds
use Rattle.rule_addresses.specs.Prefix.{masked}
use Rattle.rule_addresses.specs.declared.address.Address.{Address}
use Rattle.rule_addresses.specs.declared.address.Address.TheVariants.{V4, V6}
use Rattle.rule_eval.specs.Tables.{address_sample}
use Rattle.rule_model.specs.declared.actions.KeyExpression.TheVariants as keys
use Rattle.rule_warnings.specs.Laws.{KeyLaw}

no_number : (address : Address) → converted (address_sample address) kinds.Integer ≡ None
no_number (V4 bytes) = refl
no_number (V6 bytes) = refl

pub key_law : KeyLaw
key_law kinds.Integer keys.Source never prefixes known = no_number (masked prefixes known.src)
key_law kinds.Ip keys.SourcePort never prefixes known = refl
key_law kinds.Ip keys.DestinationPort never prefixes known = refl
key_law kinds.Ip (keys.Integer number) never prefixes known = refl
key_law kinds.Ip (keys.Text text) never prefixes known = refl
key_law kinds.Ipv6 keys.SourcePort never prefixes known = refl
key_law kinds.Ipv6 keys.DestinationPort never prefixes known = refl
key_law kinds.Ipv6 (keys.Integer number) never prefixes known = refl
key_law kinds.Ipv6 (keys.Text text) never prefixes known = refl
key_law kinds.Integer (keys.Text text) never prefixes known = refl
key_law kinds.Ip keys.Source never prefixes known = absurd (false≢true (sym never))
key_law kinds.Ipv6 keys.Source never prefixes known = absurd (false≢true (sym never))
key_law kinds.Integer keys.SourcePort never prefixes known = absurd (false≢true (sym never))
key_law kinds.Integer keys.DestinationPort never prefixes known = absurd (false≢true (sym never))
key_law kinds.Integer (keys.Integer number) never prefixes known = absurd (false≢true (sym never))
key_law (kinds.Text n) keys.Source never prefixes known = absurd (false≢true (sym never))
key_law (kinds.Text n) keys.SourcePort never prefixes known = absurd (false≢true (sym never))
key_law (kinds.Text n) keys.DestinationPort never prefixes known = absurd (false≢true (sym never))
key_law (kinds.Text n) (keys.Integer number) never prefixes known = absurd (false≢true (sym never))
key_law (kinds.Text n) (keys.Text text) never prefixes known = absurd (false≢true (sym never))
key_law (kinds.Binary n) keys.Source never prefixes known = absurd (false≢true (sym never))
key_law (kinds.Binary n) keys.SourcePort never prefixes known = absurd (false≢true (sym never))
key_law (kinds.Binary n) keys.DestinationPort never prefixes known = absurd (false≢true (sym never))
key_law (kinds.Binary n) (keys.Integer number) never prefixes known = absurd (false≢true (sym never))
key_law (kinds.Binary n) (keys.Text text) never prefixes known = absurd (false≢true (sym never))
