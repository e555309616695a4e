use Rattle.std.proofs.Common.{take, arith, length-take}
use Rattle.addr_unityfs.proofs.EarlyLaws.{early_is_first}
use Rattle.addr_unityfs.proofs.GateLaws.{signature_other, version_other, header_told, info_told, whole_told, early_stays, early_named}
use Rattle.addr_unityfs.proofs.laws.early_laws.Goals as goal

pub returns-clause-first : goal.returns-clause-first
returns-clause-first c = λ total fed more e early len. early_is_first total fed more e len early

pub returns-clause-stays : goal.returns-clause-stays
returns-clause-stays c = early_stays

pub returns-clause-named : goal.returns-clause-named
returns-clause-named c = early_named

pub returns-clause-signature : goal.returns-clause-signature
returns-clause-signature c = λ total fed. signature_other total (take total fed)

pub returns-clause-version : goal.returns-clause-version
returns-clause-version c = λ total fed. version_other total (take total fed)

pub returns-clause-header : goal.returns-clause-header
returns-clause-header c = λ total fed head end. header_told total (take total fed) (head, end)

pub returns-clause-info : goal.returns-clause-info
returns-clause-info c = λ total fed head end. info_told total (take total fed) (head, end)

pub returns-clause-whole : goal.returns-clause-whole
returns-clause-whole c = λ total fed long. whole_told total (take total fed) (omega (arith, length-take total fed, long))
