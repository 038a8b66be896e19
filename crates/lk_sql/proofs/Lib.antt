pub mod Labels
pub mod MeaningForms
pub mod TextForms
