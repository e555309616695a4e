use Rattle.std.proofs.Common.{◌≡◌, Bool, true, false, List, [], ◌∷◌, ◌++◌, ap, ◌∙◌}
use Rattle.std.specs.Prelude.{if◌then◌else◌}
use Rattle.addr_base.proofs.FileLemmas.{laid_put, put_done}
use Rattle.addr_base.specs.Memory.{acts_next}
use Rattle.addr_base.specs.Plans.{fails_next}
use Rattle.addr_base.specs.declared.files.MemFile.{MemFile}
use Rattle.addr_base.specs.declared.mem_depot.Fate.TheVariants.{Runs, Fails, Acts}
use Rattle.addr_base.specs.declared.mem_depot.MemDepot.{MemDepot}
use Rattle.addr_base.proofs.mem_depot.MemDepotDepot.put.Goals as goal

acts_only : (acts fails : Bool) → Acts ≡ (if acts then Acts else (if fails then Fails else Runs)) → acts ≡ false → ⊥
acts_only true fails e not = cc
acts_only false true e not = cc
acts_only false false e not = cc

first_of : MemDepot → List MemFile
first_of depot = depot.first.items

puts_of : MemDepot → List MemFile
puts_of depot = depot.puts.items

pub returns-in_ok-lay-in-Runs-clause-moments : goal.returns-in_ok-lay-in-Runs-clause-moments
unfolding first_of puts_of
returns-in_ok-lay-in-Runs-clause-moments c =
    put_done c.args.name.now c.args.bytes.now c.args.self.now.first.items c.args.self.now.puts.items c.lay.new.self.first.items c.lay.new.self.puts.items _ _ _
    (ap first_of c.lay.ensures.same ∙ ap first_of c.next_fate.ensures.same)
    (c.in_ok-lay-in-Runs.ensures.ok ∙ ap (λ depot. puts_of depot ++ record { name = c.args.name.now; bytes = c.args.bytes.now } ∷ []) c.next_fate.ensures.same)

pub returns-in_ok-lay-in-Runs-clause-leaves : goal.returns-in_ok-lay-in-Runs-clause-leaves
unfolding first_of puts_of
returns-in_ok-lay-in-Runs-clause-leaves c =
    laid_put c.args.name.now c.args.bytes.now c.args.self.now.first.items c.args.self.now.puts.items c.lay.new.self.first.items c.lay.new.self.puts.items
    (ap first_of c.lay.ensures.same ∙ ap first_of c.next_fate.ensures.same)
    (c.in_ok-lay-in-Runs.ensures.ok ∙ ap (λ depot. puts_of depot ++ record { name = c.args.name.now; bytes = c.args.bytes.now } ∷ []) c.next_fate.ensures.same)

pub returns-in_ok-lay-in-Acts-clause-moments : goal.returns-in_ok-lay-in-Acts-clause-moments
unfolding first_of puts_of
returns-in_ok-lay-in-Acts-clause-moments c =
    put_done c.args.name.now c.args.bytes.now c.args.self.now.first.items c.args.self.now.puts.items c.count_fault.new.self.first.items c.count_fault.new.self.puts.items _ _ _
    (ap first_of c.count_fault.ensures.same ∙ ap first_of c.lay-in-Acts.ensures.same ∙ ap first_of c.next_fate.ensures.same)
    (ap puts_of c.count_fault.ensures.same ∙ c.in_ok-lay-in-Acts.ensures.ok ∙ ap (λ depot. puts_of depot ++ record { name = c.args.name.now; bytes = c.args.bytes.now } ∷ []) c.next_fate.ensures.same)

pub returns-in_ok-lay-in-Acts-clause-leaves : goal.returns-in_ok-lay-in-Acts-clause-leaves
unfolding first_of puts_of
returns-in_ok-lay-in-Acts-clause-leaves c = (
  λ acts. laid_put c.args.name.now c.args.bytes.now c.args.self.now.first.items c.args.self.now.puts.items c.count_fault.new.self.first.items c.count_fault.new.self.puts.items
      (ap first_of c.count_fault.ensures.same ∙ ap first_of c.lay-in-Acts.ensures.same ∙ ap first_of c.next_fate.ensures.same)
      (ap puts_of c.count_fault.ensures.same ∙ c.in_ok-lay-in-Acts.ensures.ok ∙ ap (λ depot. puts_of depot ++ record { name = c.args.name.now; bytes = c.args.bytes.now } ∷ []) c.next_fate.ensures.same),
  λ not. absurd (acts_only (acts_next c.args.self.now) (fails_next c.args.self.now.plan) c.in-Acts.ensures.fate not),
)
