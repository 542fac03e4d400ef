pub mod BytesLemmas
pub mod RowsLemmas
pub mod DumpListsLemmas
pub mod DumpFloatsLemmas
pub mod DumpPartsLemmas
pub mod LinesLemmas
pub mod DumpReplicaLemmas
