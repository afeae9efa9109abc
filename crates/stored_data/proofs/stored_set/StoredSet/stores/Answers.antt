use Rattle.std.proofs.Common.{rules, ◌≡◌}
use Rattle.stored_data.specs.Fields.{is_field}
use Rattle.stored_data.proofs.Elements.{is_field-stores}
use Rattle.stored_data.proofs.stored_set.StoredSet.stores.Goals as goal

pub returns-clause-stores : goal.returns-clause-stores
returns-clause-stores c =
    let same : c.has_field.result ≡ is_field c.args.self.now c.args.field = search rules in
    rw same (is_field-stores c.args.self.now c.args.field)
