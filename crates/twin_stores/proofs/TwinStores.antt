-- Why stores that stand for one history are twins, and twins stand for the same histories.
use Rattle.std.proofs.Common.{sym, ◌∙◌}
use Rattle.twin_stores.specs.Laws.{StoresOfOneHistoryAreTwins, TwinStoresStandForTheSame, StoresOfOneHistoryStandForTheSame}
use Rattle.twin_stores.proofs.TwinTables.{tables-of-one-history-are-twins, twin-tables-stand-for-the-same, tables-of-one-history-stand-for-the-same}

pub stores-of-one-history-are-twins : StoresOfOneHistoryAreTwins
stores-of-one-history-are-twins one other rs ks sa sb limits = record {
  tables = tables-of-one-history-are-twins one.table other.table rs ks sa.table sb.table limits;
  versions = λ k. sa.versions k ∙ sym (sb.versions k);
}

pub twin-stores-stand-for-the-same : TwinStoresStandForTheSame
twin-stores-stand-for-the-same one other rs rs' ks ks' sa sb twins = record {
  table = twin-tables-stand-for-the-same one.table other.table rs rs' ks ks' sa.table sb.table twins.tables;
  versions = λ k. sym (twins.versions k) ∙ sa.versions k;
}

pub stores-of-one-history-stand-for-the-same : StoresOfOneHistoryStandForTheSame
stores-of-one-history-stand-for-the-same one other rs rs' ks ks' sa sb sa' = record {
  table = tables-of-one-history-stand-for-the-same one.table other.table rs rs' ks ks' sa.table sb.table sa'.table;
  versions = λ k. sb.versions k ∙ (sym (sa.versions k) ∙ sa'.versions k);
}
