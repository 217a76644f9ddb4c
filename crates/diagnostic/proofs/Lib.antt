pub mod DiagnosticLaws
