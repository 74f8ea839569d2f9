pub mod Decimal
pub mod Written
pub mod Words
pub mod Numbers
pub mod Inverse
pub mod Scans
pub mod Made
pub mod Printed
