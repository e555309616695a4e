use Rattle.addr_cab.proofs.PutLaws.{after_five}
use Rattle.addr_cab.proofs.put.put_row.Goals as goal

pub returns-clause-row : goal.returns-clause-row
returns-clause-row c =
    let size = rw c.len.ensures at c.in_ok-put_u64-2.ensures in
    let count = rw c.len-2.ensures at c.in_ok-put_u32.ensures in
    let refs = rw c.as_slice.ensures at c.in_ok-put_refs.ensures.text in
    after_five c.args.out.now.items c.extend_from_slice.new.self.items c.put_u64.new.out.items c.put_u64-2.new.out.items c.put_u32.new.out.items c.put_refs.new.out.items c.args.object.now.guid.0 _ _ _ _ c.in_ok-extend_from_slice.ensures.items c.in_ok-put_u64.ensures size count refs
