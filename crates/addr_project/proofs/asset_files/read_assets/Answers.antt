use Rattle.std.proofs.Common.{◌≡◌, true, get_or, Some, None, inr, refl, sym, ap, subst, ◌∙◌, nat_cmp, arith}
use Rattle.std.specs.BTreeSet.{contains_by}
use Rattle.std.specs.Cmp.Lexicographic.{slice_cmp}
use Rattle.std.specs.Option.{option_map, is_some}
use Rattle.addr_base.specs.Files.{file_at}
use Rattle.addr_project.specs.declared.error.ProjectErr.TheVariants.{MissingFile}
use Rattle.addr_project.specs.Reading.{path, bytes_of}
use Rattle.addr_project.proofs.LoadLemmas.{told-none, told-missing, told-more, told-all, told-assets, anyhow-none, anyhow-more, never-more, if-some, if-some-at}
use Rattle.addr_project.proofs.SeenLemmas.{has_file, AreThere, there-more, there-seen, adds-none, both, there-is}
use Rattle.addr_project.proofs.asset_files.read_assets.Goals as goal

pub loop-i-init : goal.loop-i-init
loop-i-init g c = record {
  same = record { files = refl; past = refl };
  faults = refl;
  small = omega arith;
  never = λ same. cc;
  told = if-some ((g.D.Depot.now c.args.depot.now).files) _ (λ files is. told-none files c.args.folder.now c.args.rows.now _ refl c.new.ensures refl);
  seen = if-some ((g.D.Depot.now c.args.depot.now).files) _ (λ files is. subst (AreThere files c.args.folder.now) (sym c.new-seen.ensures.empty) tt);
  any = λ none. anyhow-none c.args.rows.now _ c.new.ensures refl;
}

pub loop-i-preserved : goal.loop-i-preserved
loop-i-preserved g c =
    let row = c.index-rows-i.result in
    let rows = c.args.rows.now in
    let folder = c.args.folder.now in
    let at : get_or rows c.loop-i.i row ≡ row = sym c.index-rows-i.is in
    let name_is : c.as_str.result.now ≡ path folder row.file = c.as_str.ensures.value ∙ c.in_ok-name.ensures ∙ ap (path folder) c.as_str-file.ensures in
    record {
      same = record {
        files = c.in_ok-bytes.ensures.same.files ∙ c.loop-i.invariant.same.files;
        past = c.in_ok-bytes.ensures.same.past ∙ c.loop-i.invariant.same.past;
      };
      faults = c.in_ok-bytes.ensures.cause ∙ c.loop-i.invariant.faults;
      never = never-more c.loop-i.loaded c.in_ok-loaded-in-Some.loaded row c.in-Some.bytes.items c.in_ok-loaded-in-Some.ensures.adds c.loop-i.invariant.never;
      small = c.in_ok-loaded-in-Some.ensures.small;
      told = if-some ((g.D.Depot.now c.args.depot.now).files) _ (λ files is. (
          let told = if-some-at _ ((g.D.Depot.now c.args.depot.now).files) files is c.loop-i.invariant.told in
          let content = if-some-at _ ((g.D.Depot.now c.loop-i.depot).files) files (c.loop-i.invariant.same.files ∙ is) c.in_ok-bytes.ensures.content in
          let bytes_is : bytes_of files folder row ≡ Some c.in-Some.bytes.items = ap (λ n. file_at n files) (sym name_is) ∙ sym content ∙ ap (option_map (λ v. v.items)) c.in-Some.is in
          told-more files folder rows c.loop-i.i row c.loop-i-test.true at c.in-Some.bytes.items bytes_is c.loop-i.loaded c.in_ok-loaded-in-Some.loaded c.in_ok-loaded-in-Some.ensures.adds told));
      seen = if-some ((g.D.Depot.now c.args.depot.now).files) _ (λ files is. (
          let there = if-some-at _ ((g.D.Depot.now c.args.depot.now).files) files is c.loop-i.invariant.seen in
          let content = if-some-at _ ((g.D.Depot.now c.loop-i.depot).files) files (c.loop-i.invariant.same.files ∙ is) c.in_ok-bytes.ensures.content in
          let bytes_is : bytes_of files folder row ≡ Some c.in-Some.bytes.items = ap (λ n. file_at n files) (sym name_is) ∙ sym content ∙ ap (option_map (λ v. v.items)) c.in-Some.is in
          let here : has_file files folder c.as_str-file.result.now ≡ true = ap (has_file files folder) c.as_str-file.ensures ∙ ap is_some bytes_is in
          subst (AreThere files folder) (sym c.in-Ok.ensures.keys) (there-more files folder c.loop-i.seen.keys c.as_str-file.result here there)));
      any = λ none. anyhow-more rows c.loop-i.i row c.loop-i-test.true at c.in-Some.bytes.items c.loop-i.loaded c.in_ok-loaded-in-Some.loaded c.in_ok-loaded-in-Some.ensures.adds c.loop-i.invariant.any none;
    }

pub loop-i-preserved-then-is_known : goal.loop-i-preserved-then-is_known
loop-i-preserved-then-is_known g c =
    let row = c.index-rows-i.result in
    let rows = c.args.rows.now in
    let folder = c.args.folder.now in
    let at : get_or rows c.loop-i.i row ≡ row = sym c.index-rows-i.is in
    let (over_is, known) = both (is_some c.loop-i.loaded.over) (contains_by (λ key. slice_cmp nat_cmp c.as_str-file.result.now key.now) c.loop-i.seen) (sym c.is_known.ensures ∙ c.if-is_known.true) in
    let (fault, over) = there-is c.loop-i.loaded.over over_is in
    record {
      same = c.loop-i.invariant.same;
      faults = c.loop-i.invariant.faults;
      never = c.loop-i.invariant.never;
      small = c.loop-i.invariant.small;
      told = if-some ((g.D.Depot.now c.args.depot.now).files) _ (λ files is. (
          let told = if-some-at _ ((g.D.Depot.now c.args.depot.now).files) files is c.loop-i.invariant.told in
          let there = if-some-at _ ((g.D.Depot.now c.args.depot.now).files) files is c.loop-i.invariant.seen in
          let (bytes, found) = there-seen files folder c.loop-i.seen c.as_str-file.result.now there known in
          let bytes_is : bytes_of files folder row ≡ Some bytes = ap (λ n. file_at (path folder n) files) (sym c.as_str-file.ensures) ∙ found in
          told-more files folder rows c.loop-i.i row c.loop-i-test.true at bytes bytes_is c.loop-i.loaded c.loop-i.loaded (adds-none c.loop-i.loaded row bytes fault over) told));
      seen = c.loop-i.invariant.seen;
      any = λ none. absurd (cc (none, over));
    }

pub returns-in-None-clause-told : goal.returns-in-None-clause-told
returns-in-None-clause-told g c =
    let row = c.index-rows-i.result in
    let rows = c.args.rows.now in
    let folder = c.args.folder.now in
    let at : get_or rows c.loop-i.i row ≡ row = sym c.index-rows-i.is in
    let name_is : c.as_str.result.now ≡ path folder row.file = c.as_str.ensures.value ∙ c.in_ok-name.ensures ∙ ap (path folder) c.as_str-file.ensures in
    if-some ((g.D.Depot.now c.args.depot.now).files) _ (λ files is. (
    let told = if-some-at _ ((g.D.Depot.now c.args.depot.now).files) files is c.loop-i.invariant.told in
    let content = if-some-at _ ((g.D.Depot.now c.loop-i.depot).files) files (c.loop-i.invariant.same.files ∙ is) c.in_ok-bytes.ensures.content in
    let none : bytes_of files folder row ≡ None = ap (λ n. file_at n files) (sym name_is) ∙ sym content ∙ ap (option_map (λ v. v.items)) c.in-None.is in
    inr (inr (told-missing files folder rows c.loop-i.i row c.loop-i-test.true at c.loop-i.loaded told none ∙ ap (λ n. Some (MissingFile n)) (sym c.in_ok-row_number-in-None.ensures.ok)))))

pub returns-in-Some-over-clause-told : goal.returns-in-Some-over-clause-told
returns-in-Some-over-clause-told g c =
    if-some ((g.D.Depot.now c.args.depot.now).files) _ (λ files is. (
    let told = if-some-at _ ((g.D.Depot.now c.args.depot.now).files) files is c.loop-i.invariant.told in
    inr (inr (told-all files c.args.folder.now c.args.rows.now c.loop-i.i c.loop-i.loaded told c.loop-i-test.false ∙ c.in-Some-over.is))))

pub returns-in-Some-over-clause-cause : goal.returns-in-Some-over-clause-cause
returns-in-Some-over-clause-cause g c = record {
  later = omega (arith, c.loop-i.invariant.faults);
  failed = λ same. absurd (c.loop-i.invariant.never (c.in-Some-over.is ∙ ap Some same));
  kept = λ _. c.loop-i.invariant.faults;
}

pub returns-in-None-over-clause-told : goal.returns-in-None-over-clause-told
returns-in-None-over-clause-told g c =
    if-some ((g.D.Depot.now c.args.depot.now).files) _ (λ files is. (
    let told = if-some-at _ ((g.D.Depot.now c.args.depot.now).files) files is c.loop-i.invariant.told in (
      told-all files c.args.folder.now c.args.rows.now c.loop-i.i c.loop-i.loaded told c.loop-i-test.false ∙ c.in-None-over.is,
      told-assets files c.args.folder.now c.args.rows.now c.loop-i.i c.loop-i.loaded told c.loop-i-test.false c.in-None-over.is,
    )))
