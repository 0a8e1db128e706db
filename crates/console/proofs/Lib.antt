mod Named
mod Sheets
mod Opens
