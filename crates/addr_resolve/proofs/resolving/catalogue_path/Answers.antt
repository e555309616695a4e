use Rattle.addr_resolve.proofs.resolving.catalogue_path.Goals as goal

pub returns : goal.returns
returns c = c.path_of.ensures
