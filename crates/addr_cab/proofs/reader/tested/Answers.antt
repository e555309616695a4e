use Rattle.std.proofs.Common.{◌<◌, ◌^◌, length, rules, arith}
use Rattle.addr_cab.specs.Tails.{parts}
use Rattle.addr_cab.proofs.PartLaws.{table_fits, parts_sound}
use Rattle.addr_cab.proofs.reader.tested.Goals as goal

pub invariant_of-ascending : goal.invariant_of-ascending
invariant_of-ascending c =
    let sound = parts_sound c.args.room c.args.table.now (parts c.in_ok-outside.field-0) (λ i. omega (arith, c.type_inv.table i)) c.in_ok-outside.ensures in
    rw c.deref.ensures.value (record { ascend = sound.ascend })

pub end_fault-requires : goal.end_fault-requires
end_fault-requires c =
    let fits = table_fits c.args.room c.args.table.now (parts c.in_ok-outside.field-0) (λ i. omega (arith, c.type_inv.table i)) c.in_ok-outside.ensures in
    let small : length c.args.table.now < 2 ^ 63 = search rules in
    rw (c.deref.ensures.value, c.deref-2.ensures.value) (omega (arith, fits, small))

pub returns-clause-within : goal.returns-clause-within
returns-clause-within c =
    let sound = parts_sound c.args.room c.args.table.now (parts c.in_ok-outside.field-0) (λ i. omega (arith, c.type_inv.table i)) c.in_ok-outside.ensures in
    sound.within

pub returns-clause-few : goal.returns-clause-few
returns-clause-few c =
    let sound = parts_sound c.args.room c.args.table.now (parts c.in_ok-outside.field-0) (λ i. omega (arith, c.type_inv.table i)) c.in_ok-outside.ensures in
    sound.few
