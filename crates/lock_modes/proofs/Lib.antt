pub mod ModesLemmas
pub mod NamesLemmas
pub mod TablesLemmas
pub mod ApartLemmas
pub mod EscalationLemmas
